use Rattle.std.proofs.Common.{◌∙◌, ◌≤◌, List, length, arith, sym, ap}
use Rattle.pce_common.specs.plant_model.Element.{Row, waiting}
use Rattle.pce_element.specs.Rows.{row_of}
use Rattle.pce_common.proofs.HeldPlaces.{listed_at, nothing_dropped}
use Rattle.pce_element.proofs.ReadyLemmas.{waits_yet}
use Rattle.pce_element.proofs.SearchLemmas.{closed_rows, has_ended, left_of, waits_here, waits_not}
use Rattle.pce_element.proofs.pinned.PinnedRequests.waiting.Goals as goal
use Rattle.pce_element.proofs.pinned.PinnedRequests.waiting.Goals.{else-waits_for-via-then-waits_for+else-not-has_number, else-waits_for-via-else-waits_for}

pub returns-then-not-has_number-clause-row : goal.returns-then-not-has_number-clause-row
returns-then-not-has_number-clause-row g c =
    ap (waiting c.args.peer c.args.id) (closed_rows c.args.ended.now c.args.self.now.pending c.len-k-end.ensures.rules.numbers) ∙ sym c.loop-k.invariant
    ∙ waits_here c.args.peer c.args.id c.args.ended.now c.args.self.now.pending.rows c.loop-k.k (row_of c.in-Some.row) c.in-Some.ensures.row (sym c.waits_for.ensures ∙ c.if-waits_for.true) (sym c.has_number.ensures ∙ c.if-not-has_number.true)

pub returns-then-not-has_number-clause-has : goal.returns-then-not-has_number-clause-has
returns-then-not-has_number-clause-has g c = listed_at c.args.self.now.pending.rows c.loop-k.k (row_of c.in-Some.row) c.in-Some.ensures.row

pub returns-then-not-has_number-clause-waits : goal.returns-then-not-has_number-clause-waits
returns-then-not-has_number-clause-waits g c = waits_yet c.args.peer c.args.id c.in-Some.row.item.now.stage (sym c.waits_for.ensures ∙ c.if-waits_for.true)

pub loop-k-preserved : goal.loop-k-preserved
loop-k-preserved g c =
    let rows : List (Row _) = c.args.self.now.pending.rows in
    elim c.else-waits_for.branch [
      | else-waits_for-via-then-waits_for+else-not-has_number w ↦
          sym (has_ended c.args.peer c.args.id c.args.ended.now rows c.loop-k.k (row_of c.in-Some.row) c.in-Some.ensures.row (sym w.has_number.ensures ∙ w.if-not-has_number.false)) ∙ c.loop-k.invariant
      | else-waits_for-via-else-waits_for w ↦
          sym (waits_not c.args.peer c.args.id c.args.ended.now rows c.loop-k.k (row_of c.in-Some.row) c.in-Some.ensures.row (sym c.waits_for.ensures ∙ w.if-waits_for.false)) ∙ c.loop-k.invariant
    ]

pub returns-clause-row : goal.returns-clause-row
returns-clause-row g c =
    let rows : List (Row _) = c.args.self.now.pending.rows in
    let past : length rows ≤ c.loop-k.k = omega (arith, c.len-k-end.ensures.count, c.loop-k-test.false) in
    ap (waiting c.args.peer c.args.id) (closed_rows c.args.ended.now c.args.self.now.pending c.len-k-end.ensures.rules.numbers) ∙ sym c.loop-k.invariant
    ∙ ap (λ (rs : List (Row _)). waiting c.args.peer c.args.id (left_of c.args.ended.now rs)) (nothing_dropped rows c.loop-k.k past)
