use Rattle.std.proofs.Common.{◌≡◌, ◌∙◌, true, false, sym, ap, refl, subst}
use Rattle.std.specs.Option.{is_some}
use Rattle.te_deltas.specs.Changes.{has_name, without}
use Rattle.te_deltas.specs.Slots.{live, DifferByName}
use Rattle.te_deltas.proofs.SlotLemmas.{there, tells_cleared, live_clear, without_none, differ_without, place_within}
use Rattle.te_deltas.proofs.table.Table.take_out.Goals as goal

pub returns-in_default-clause-there : goal.returns-in_default-clause-there
returns-in_default-clause-there c =
    let before = c.self.inside in
    sym (there before.places before.slots.items c.args.self.now c.args.name c.args.name false c.self.invariant.places c.self.view_is refl (ap is_some c.in_default.ensures.value))

pub returns-in_default-clause-rows : goal.returns-in_default-clause-rows
returns-in_default-clause-rows c =
    let before = c.self.inside in
    let none : has_name c.args.name (live before.slots.items) ≡ false =
    there before.places before.slots.items (live before.slots.items) c.args.name c.args.name false c.self.invariant.places refl refl (ap is_some c.in_default.ensures.value) in
    sym (without_none c.args.name (live before.slots.items) none) ∙ ap (without c.args.name) c.self.view_is

pub empty_slot-requires : goal.empty_slot-requires
empty_slot-requires c = place_within c.args.name c.self.inside.slots.items c.in-Some.place (sym (c.self.invariant.places c.args.name) ∙ sym c.in-Some.ensures.value)

pub invariant_of-self-2 : goal.invariant_of-self-2
invariant_of-self-2 c =
    let before = c.self.inside in
    let found = sym (c.self.invariant.places c.args.name) ∙ sym c.in-Some.ensures.value in
    record {
      places = tells_cleared before.places c.remove.new.self before.slots.items c.empty_slot.new.slots.items c.args.name c.in-Some.place
          c.self.invariant.places c.self.invariant.differ c.in-Some.ensures.value c.in-Some.ensures.updates.0 c.empty_slot.ensures;
      differ = subst DifferByName (sym (ap live c.empty_slot.ensures ∙ live_clear c.args.name before.slots.items c.in-Some.place c.self.invariant.differ found))
          (differ_without c.args.name (live before.slots.items) c.self.invariant.differ);
    }

pub returns-clause-there : goal.returns-clause-there
returns-clause-there c =
    let before = c.self.inside in
    sym (there before.places before.slots.items c.args.self.now c.args.name c.args.name true c.self.invariant.places c.self.view_is refl (ap is_some c.in-Some.ensures.value))

pub returns-clause-rows : goal.returns-clause-rows
returns-clause-rows c =
    let before = c.self.inside in
    ap live c.empty_slot.ensures
    ∙ live_clear c.args.name before.slots.items c.in-Some.place c.self.invariant.differ (sym (c.self.invariant.places c.args.name) ∙ sym c.in-Some.ensures.value)
    ∙ ap (without c.args.name) c.self.view_is
