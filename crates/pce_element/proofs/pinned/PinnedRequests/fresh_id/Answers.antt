use Rattle.std.proofs.Common.{◌∙◌, ◌<◌, ◌+◌, ℕ, List, drop, length, arith, sym, ap}
use Rattle.pce_common.specs.plant_model.Element.{Row, is_waiting, pass_over}
use Rattle.pce_element.proofs.SearchLemmas.{not_passed, passed_over}
use Rattle.pce_element.proofs.pinned.PinnedRequests.fresh_id.Goals as goal

pub returns-then-not-is_waiting : goal.returns-then-not-is_waiting
returns-then-not-is_waiting g c =
    let rows : List (Row _) = c.args.self.now.pending.rows in
    sym (not_passed (drop c.loop-row._row rows) (is_waiting c.args.peer rows) c.loop-row.id (sym c.is_waiting.ensures ∙ c.if-not-is_waiting.true)) ∙ c.loop-row.invariant

pub loop-row-preserved : goal.loop-row-preserved
loop-row-preserved g c =
    let rows : List (Row _) = c.args.self.now.pending.rows in
    let within : c.loop-row._row < length rows = omega (arith, c.len-row-end.ensures.count, c.loop-row-test.true) in
    ap (λ (y : ℕ). pass_over (drop (c.loop-row._row + 1) rows) (is_waiting c.args.peer rows) y) c.after_id-id-in-loop-row.ensures
    ∙ sym (passed_over rows (is_waiting c.args.peer rows) c.loop-row._row c.loop-row.id within (sym c.is_waiting.ensures ∙ c.if-not-is_waiting.false)) ∙ c.loop-row.invariant
