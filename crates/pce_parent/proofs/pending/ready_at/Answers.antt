use Rattle.std.proofs.Common.{◌∙◌, ◌<◌, ◌+◌, ℕ, sym, ap, arith, drop}
use Rattle.std.specs.Prelude.{slice_get}
use Rattle.pce_common.specs.plant_model.Parent.{AskingRow, is_ready, ready_numbers}
use Rattle.pce_parent.specs.Pendings.{row_of}
use Rattle.pce_common.proofs.Scans.{picked_here, picked_next, picked_more}
use Rattle.pce_parent.proofs.pending.ready_at.Goals as goal
use Rattle.pce_parent.proofs.pending.ready_at.Goals.{then-is_ready+else-left-eq0, else-is_ready}

pub returns-then-left-eq0 : goal.returns-then-left-eq0
returns-then-left-eq0 c =
    let rows = c.args.requests.now.kept.rows in
    sym (c.loop-i.invariant ∙ ap (λ (n : ℕ). slice_get (ready_numbers (drop c.loop-i.i rows)) n) c.if-left-eq0.true
    ∙ picked_here (λ (r : AskingRow). is_ready r.1.item) (λ (r : AskingRow). r.0) c.loop-i.i rows (row_of c.in-Some.row) c.in-Some.ensures.row (sym c.is_ready.ensures ∙ c.if-is_ready.true))

pub loop-i-preserved : goal.loop-i-preserved
loop-i-preserved c =
    let rows = c.args.requests.now.kept.rows in
    elim c.if-is_ready.branch [
      | then-is_ready+else-left-eq0 w ↦
          let some : 0 < c.loop-i.left = omega (arith, w.if-left-eq0.false) in
          c.loop-i.invariant
          ∙ picked_next (λ (r : AskingRow). is_ready r.1.item) (λ (r : AskingRow). r.0) c.loop-i.i c.loop-i.left rows (row_of c.in-Some.row) c.in-Some.ensures.row (sym c.is_ready.ensures ∙ w.if-is_ready.true) some
          ∙ ap (λ (n : ℕ). slice_get (ready_numbers (drop (c.loop-i.i + 1) rows)) n) (sym w.left-is)
      | else-is_ready w ↦
          c.loop-i.invariant
          ∙ picked_more (λ (r : AskingRow). is_ready r.1.item) (λ (r : AskingRow). r.0) c.loop-i.i c.loop-i.left rows (row_of c.in-Some.row) c.in-Some.ensures.row (sym c.is_ready.ensures ∙ w.if-is_ready.false)
          ∙ ap (λ (n : ℕ). slice_get (ready_numbers (drop (c.loop-i.i + 1) rows)) n) (sym w.left-is)
    ]
