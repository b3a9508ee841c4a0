use Rattle.std.proofs.Common.{◌≡◌, ◌∙◌, false, slice_get, take, Some, List, sym, ap, arith}
use Rattle.std.proofs.lemmas.Option.{slice_get-get_or}
use Rattle.te_text.specs.declared.row.TextRow.{TextRow}
use Rattle.te_deltas.specs.declared.changes.Change.{Change}
use Rattle.te_deltas.specs.Changes.{changed, is_mistake, rows_after}
use Rattle.te_deltas.proofs.Turns.{rows_more, none_more, not_false}
use Rattle.te_deltas.proofs.making.make_all.Goals as goal

pub loop-place-preserved : goal.loop-place-preserved
loop-place-preserved c =
    let list = c.args.table.now in
    let changes = c.args.changes.now in
    let i = c.loop-place.place in
    let change = c.index-changes-place.result in
    let so_far = c.loop-place.invariant in
    let at : slice_get changes i ≡ Some change = slice_get-get_or changes i change (omega (arith, c.loop-place-test.true)) ∙ ap (λ (x : Change). Some x) (sym c.index-changes-place.is) in
    let good : is_mistake (rows_after list (take i changes)) change ≡ false =
    ap (λ (l : List TextRow). is_mistake l change) (sym so_far.rows) ∙ not_false (is_mistake c.loop-place.table change) c.in_ok-make.field-0 c.in_ok-make.ensures.made c.if-not-branch.false in
    record {
      made = none_more list changes i change so_far.made at good;
      rows = c.in_ok-make.ensures.rows c.if-not-branch.false ∙ ap (λ (l : List TextRow). changed l change) so_far.rows ∙ sym (rows_more list changes i change at);
    }
