use Rattle.std.proofs.Common.{◌≡◌, ◌+◌, ◌∙◌, ℕ, Some, take, slice_get, subst, sym}
use Rattle.request_table.specs.declared.held.Held.{Held}
use Rattle.pce_common.specs.Rounds.{IsNext, jobs_by}
use Rattle.pce_common.proofs.RoundLemmas.{next_found, next_passed}
use Rattle.pce_common.proofs.rounds.next_job.Goals as goal
use Rattle.pce_common.proofs.rounds.next_job.Goals.{then-is_ready, else-is_ready}

pub loop-i-preserved : goal.loop-i-preserved
loop-i-preserved g c =
    let solvable = g.T.Solvable.solvable in
    let rows = c.args.requests.now.kept.rows in
    let row : ℕ × Held g.row.T.Denot = (c.in-Some.number, c.in-Some.held.now) in
    let at : slice_get rows c.loop-i.i ≡ Some row = sym c.in-Some.ensures in
    elim c.if-is_ready.branch [
      | then-is_ready w ↦
          subst (IsNext c.args.behind (jobs_by solvable (take (c.loop-i.i + 1) rows))) (sym w.next-is)
          (next_found solvable c.args.behind rows c.loop-i.i row c.loop-i.next w.next_of-next.result at (sym c.is_ready.ensures ∙ w.if-is_ready.true) c.loop-i.invariant w.next_of-next.ensures)
      | else-is_ready w ↦
          subst (IsNext c.args.behind (jobs_by solvable (take (c.loop-i.i + 1) rows))) (sym w.next-is)
          (next_passed solvable c.args.behind rows c.loop-i.i row c.loop-i.next at (sym c.is_ready.ensures ∙ w.if-is_ready.false) c.loop-i.invariant)
    ]
