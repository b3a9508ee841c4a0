use Rattle.std.proofs.Common.{◌≡◌, ◌∙◌, Bool, List, Some, cond, slice_get, take, sym, ap, arith}
use Rattle.std.specs.Option.{is_some}
use Rattle.std.proofs.lemmas.Option.{slice_get-get_or}
use Rattle.te_text.specs.declared.row.TextRow.{TextRow}
use Rattle.te_text.specs.TopologyText.{rows_in_order}
use Rattle.te_deltas.specs.declared.changes.Change.{Change}
use Rattle.te_deltas.specs.Changes.{added, has_name, named, rows_after, same_name}
use Rattle.te_deltas.proofs.SeenLemmas.{turn}
use Rattle.te_deltas.proofs.Turns.{rows_more}
use Rattle.te_deltas.proofs.seen.is_there.Goals as goal

pub loop-place-preserved : goal.loop-place-preserved
loop-place-preserved c =
    let list = rows_in_order c.args.topology.now in
    let before = c.args.before.now in
    let name = c.args.name in
    let i = c.loop-place.place in
    let change = c.index-before-place.result in
    let at : slice_get before i ≡ Some change = slice_get-get_or before i change (omega (arith, c.loop-place-test.true)) ∙ ap (λ (x : Change). Some x) (sym c.index-before-place.is) in
    c.after-there.ensures
    ∙ ap (λ (b : Bool). cond (same_name name (named change)) (is_some (added change)) b) c.loop-place.invariant
    ∙ sym (turn name (rows_after list (take i before)) change)
    ∙ sym (ap (λ (l : List TextRow). has_name name l) (rows_more list before i change at))
