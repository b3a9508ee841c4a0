use Rattle.std.proofs.Common.{◌∙◌, ◌-◌, inl, nat_eq, sym, refl}
use Rattle.std.specs.Prelude.{vec_capacity, vec_len}
use Rattle.std.specs.Map.{set_value}
use Rattle.slab.specs.Slab.{get, with_value}
use Rattle.slab.proofs.SlabLemmas.{Updates-with_value}
use Rattle.request_table.specs.Rows.{rows_in}
use Rattle.request_table.proofs.RowLemmas.{absent_in, found_in, not_none, rises_in, some_in, written_places_in, written_room, written_rows_in}
use Rattle.request_table.proofs.rows.Rows.get_mut.Goals as goal

pub place_of-requires : goal.place_of-requires
place_of-requires g c = rises_in (get c.self.inside.values) c.self.inside.places.items c.as_slice.result.now c.self.invariant c.as_slice.ensures.value

pub returns-in_default : goal.returns-in_default
returns-in_default g c =
    rw (← c.self.view_is) (
      refl,
      record { writes_back = tt; value = absent_in (get c.self.inside.values) c.self.inside.places.items c.as_slice.result.now c.self.invariant c.as_slice.ensures.value c.args.number c.in_default.ensures },
    )

pub unreachable-requires : goal.unreachable-requires
unreachable-requires g c =
    let some =
    some_in (get c.self.inside.values) c.self.inside.places.items c.as_slice.result.now c.self.invariant c.as_slice.ensures.value c.args.number c.in-Some.k c.index.result.now c.in-Some.ensures
    c.index.ensures in
    not_none (get c.self.inside.values c.index.result.now.slot) (sym c.in-None.ensures.value) some

pub invariant_of-self-lent : goal.invariant_of-self-lent
invariant_of-self-lent g c = λ w.
    let values = c.self.inside.values in
    let slot = c.index.result.now.slot in
    let there =
    some_in (get values) c.self.inside.places.items c.as_slice.result.now c.self.invariant c.as_slice.ensures.value c.args.number c.in-Some.k c.index.result.now c.in-Some.ensures c.index.ensures in
    let updates = Updates-with_value values slot w there in
    written_places_in (get values) c.self.inside.places.items c.as_slice.result.now c.self.invariant c.as_slice.ensures.value c.args.number c.in-Some.k c.index.result.now c.in-Some.ensures
    c.index.ensures (get (with_value values slot w)) w updates.changed updates.others

pub returns : goal.returns
returns g c =
    let values = c.self.inside.values in
    let slot = c.index.result.now.slot in
    let places = c.self.inside.places in
    let there =
    some_in (get values) places.items c.as_slice.result.now c.self.invariant c.as_slice.ensures.value c.args.number c.in-Some.k c.index.result.now c.in-Some.ensures c.index.ensures in
    let updates = λ (w : g.row.X.Denot). Updates-with_value values slot w there in
    let rows = λ (w : g.row.X.Denot).
    written_rows_in (get values) places.items c.as_slice.result.now c.self.invariant c.as_slice.ensures.value c.args.number c.in-Some.k c.index.result.now c.in-Some.ensures c.index.ensures
    (get (with_value values slot w)) w (updates w).changed (updates w).others in
    let lent = λ (w : g.row.X.Denot).
    written_room values slot (vec_capacity places - vec_len places) w (set_value (nat_eq c.args.number) (rows_in (get values) places.items) w) (rows_in (get (with_value values slot w)) places.items) there (rows w) in
    rw (← c.self.view_is) (
      (λ i. inl (c.in-Some-get_mut.value.ghost_name, λ w. lent w i)),
      record {
        writes_back = tt;
        value =
            c.in-Some-get_mut.ensures.value
            ∙ sym (found_in (get values) places.items c.as_slice.result.now c.self.invariant c.as_slice.ensures.value c.args.number c.in-Some.k c.index.result.now c.in-Some.ensures c.index.ensures);
      },
    )
