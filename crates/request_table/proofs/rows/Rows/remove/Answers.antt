use Rattle.std.proofs.Common.{◌∙◌, sym}
use Rattle.slab.specs.Slab.{get}
use Rattle.request_table.proofs.RowLemmas.{absent_in, absent_removed_in, found_in, removed_places_in, removed_rows_in, rises_in}
use Rattle.request_table.proofs.rows.Rows.remove.Goals as goal

pub place_of-requires : goal.place_of-requires
place_of-requires g c = rises_in (get c.self.inside.values) c.self.inside.places.items c.as_slice.result.now c.self.invariant c.as_slice.ensures.value

pub returns-in_default-clause-value : goal.returns-in_default-clause-value
returns-in_default-clause-value g c =
    rw (← c.self.view_is) (absent_in (get c.self.inside.values) c.self.inside.places.items c.as_slice.result.now c.self.invariant c.as_slice.ensures.value c.args.number c.in_default.ensures)

pub returns-in_default-clause-kept : goal.returns-in_default-clause-kept
returns-in_default-clause-kept g c =
    rw (← c.self.view_is) (absent_removed_in (get c.self.inside.values) c.self.inside.places.items c.as_slice.result.now c.self.invariant c.as_slice.ensures.value c.args.number c.in_default.ensures)

pub invariant_of-self : goal.invariant_of-self
invariant_of-self g c =
    let before = c.self.inside in
    rw c.remove-place.ensures.items
    (removed_places_in (get before.values) before.places.items c.as_slice.result.now c.self.invariant c.as_slice.ensures.value c.args.number c.in-Some.k c.remove-place.result c.in-Some.ensures
    c.remove-place.ensures.value (get c.try_remove.new.self) c.try_remove.ensures.updates.others)

pub returns-clause-value : goal.returns-clause-value
returns-clause-value g c =
    let before = c.self.inside in
    rw (← c.self.view_is)
    (c.try_remove.ensures.value
    ∙ sym (found_in (get before.values) before.places.items c.as_slice.result.now c.self.invariant c.as_slice.ensures.value c.args.number c.in-Some.k c.remove-place.result c.in-Some.ensures c.remove-place.ensures.value))

pub returns-clause-kept : goal.returns-clause-kept
returns-clause-kept g c =
    let before = c.self.inside in
    rw (← c.self.view_is, c.remove-place.ensures.items)
    (removed_rows_in (get before.values) before.places.items c.as_slice.result.now c.self.invariant c.as_slice.ensures.value c.args.number c.in-Some.k c.remove-place.result c.in-Some.ensures
    c.remove-place.ensures.value (get c.try_remove.new.self) c.try_remove.ensures.updates.others)
