use Rattle.std.proofs.Common.{◌≡◌, ◌∙◌, Bool, Some, true, false, slice_get, take, sym, ap, subst, arith}
use Rattle.std.proofs.lemmas.Option.{slice_get-get_or}
use Rattle.te_text.specs.TopologyText.{rows_in_order}
use Rattle.te_deltas.specs.declared.changes.Change.{Change}
use Rattle.te_deltas.specs.declared.name.RowName.{RowName}
use Rattle.te_deltas.specs.declared.making.ChangeError.{ChangeError}
use Rattle.te_deltas.specs.Answers.{IsWhy}
use Rattle.te_deltas.specs.Changes.{added, has_name, is_mistake, is_mistake_by, rows_after}
use Rattle.te_deltas.proofs.Turns.{none_more, why_first}
use Rattle.te_deltas.proofs.seen.mistake_seen.Goals as goal

pub returns-then-is_mistake : goal.returns-then-is_mistake
returns-then-is_mistake c =
    let g = c.args.topology.now in
    let changes = c.args.changes.now in
    let i = c.loop-place.place in
    let change = c.index-changes-place.result in
    let at : slice_get changes i ≡ Some change = slice_get-get_or changes i change (omega (arith, c.loop-place-test.true)) ∙ ap (λ (x : Change). Some x) (sym c.index-changes-place.is) in
    let bad : is_mistake (rows_after (rows_in_order g) (take i changes)) change ≡ true =
    sym (c.is_mistake.ensures ∙ ap (λ (b : Bool). is_mistake_by (added change) b) (c.is_there.ensures ∙ ap (λ (name : RowName). has_name name (rows_after (rows_in_order g) (take i changes))) c.name.ensures)) ∙ c.if-is_mistake.true in
    subst (λ (why : ChangeError). IsWhy g changes why) (sym c.mistake_of.ensures) (why_first g changes i change (record { at = at; mistake = bad; first = c.loop-place.invariant }))

pub loop-place-preserved : goal.loop-place-preserved
loop-place-preserved c =
    let g = c.args.topology.now in
    let changes = c.args.changes.now in
    let i = c.loop-place.place in
    let change = c.index-changes-place.result in
    let at : slice_get changes i ≡ Some change = slice_get-get_or changes i change (omega (arith, c.loop-place-test.true)) ∙ ap (λ (x : Change). Some x) (sym c.index-changes-place.is) in
    let good : is_mistake (rows_after (rows_in_order g) (take i changes)) change ≡ false =
    sym (c.is_mistake.ensures ∙ ap (λ (b : Bool). is_mistake_by (added change) b) (c.is_there.ensures ∙ ap (λ (name : RowName). has_name name (rows_after (rows_in_order g) (take i changes))) c.name.ensures)) ∙ c.if-is_mistake.false in
    none_more (rows_in_order g) changes i change c.loop-place.invariant at good
