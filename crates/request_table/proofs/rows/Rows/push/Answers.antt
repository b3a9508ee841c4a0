use Rattle.std.proofs.Common.{is_some, ap}
use Rattle.slab.specs.Slab.{get}
use Rattle.request_table.specs.declared.rows.Place.{Place}
use Rattle.request_table.proofs.RowLemmas.{fresh_apart, pushed_places, pushed_rows}
use Rattle.request_table.proofs.rows.Rows.push.Goals as goal

pub invariant_of-self : goal.invariant_of-self
invariant_of-self g c =
    let before = c.self.inside in
    let p : Place = record { number = c.args.number; slot = c.insert_reserved-slot.result } in
    rw c.push_reserved.ensures.items
    (pushed_places (get before.values) (get c.insert_reserved-slot.new.self) before.places.items p c.self.invariant
    (fresh_apart (get before.values) c.insert_reserved-slot.result before.places.items c.insert_reserved-slot.ensures.was_vacant c.self.invariant) (rw (← c.self.view_is) at c.requires.above)
    (ap is_some c.insert_reserved-slot.ensures.updates.changed) c.insert_reserved-slot.ensures.updates.others)

pub returns-clause-kept : goal.returns-clause-kept
returns-clause-kept g c =
    let before = c.self.inside in
    let p : Place = record { number = c.args.number; slot = c.insert_reserved-slot.result } in
    rw (← c.self.view_is, c.push_reserved.ensures.items)
    (pushed_rows (get before.values) (get c.insert_reserved-slot.new.self) before.places.items p c.args.value
    (fresh_apart (get before.values) c.insert_reserved-slot.result before.places.items c.insert_reserved-slot.ensures.was_vacant c.self.invariant) c.insert_reserved-slot.ensures.updates.changed
    c.insert_reserved-slot.ensures.updates.others)
