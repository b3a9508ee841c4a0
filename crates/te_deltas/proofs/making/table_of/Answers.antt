use Rattle.std.proofs.Common.{◌≡◌, ◌∙◌, ◌++◌, ◌∷◌, true, false, List, sym, ap, subst}
use Rattle.std.specs.Vec.Iter.{into_iter_items}
use Rattle.te_text.specs.declared.row.TextRow.{TextRow}
use Rattle.te_text.specs.TopologyText.{rows_in_order}
use Rattle.te_deltas.specs.Changes.{name_of, has_name}
use Rattle.te_deltas.specs.Slots.{DifferByName}
use Rattle.te_deltas.proofs.Apart.{middle, rows_differ}
use Rattle.te_deltas.proofs.Turns.{not_true}
use Rattle.te_deltas.proofs.making.table_of.Goals as goal

pub unreachable-requires : goal.unreachable-requires
unreachable-requires c =
    let so_far = c.loop-row.invariant in
    let row = c.in-Some.row in
    let rest = into_iter_items c.next.new.self in
    let whole : c.loop-row.yielded ++ row ∷ rest ≡ rows_in_order c.args.topology.now =
    ap (λ (l : List TextRow). c.loop-row.yielded ++ l) (sym c.in-Some.ensures.steps.0) ∙ so_far.whole in
    let apart : has_name (name_of row) c.loop-row.yielded ≡ false =
    middle c.loop-row.yielded row rest (subst DifferByName (sym whole) (rows_differ c.args.topology.now c.own-own.ensures.rules)) in
    let here : has_name (name_of row) c.loop-row.table ≡ true = not_true (has_name (name_of row) c.loop-row.table) c.in_ok-add.field-0 c.in_ok-add.ensures.added c.if-not-branch.true in
    let both : true ≡ false = sym here ∙ ap (λ (l : List TextRow). has_name (name_of row) l) so_far.rows ∙ apart in
    cc
