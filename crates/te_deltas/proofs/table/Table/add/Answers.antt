use Rattle.std.proofs.Common.{◌≡◌, ◌∙◌, not, true, false, sym, ap, refl, subst, List, Some, ◌++◌, ◌∷◌, [], arith}
use Rattle.te_text.specs.declared.row.TextRow.{TextRow}
use Rattle.te_deltas.specs.Changes.{name_of, has_name}
use Rattle.te_deltas.proofs.SlotLemmas.{there, tells_pushed, live_push, differ_push}
use Rattle.te_deltas.specs.Slots.{live, DifferByName}
use Rattle.te_deltas.proofs.table.Table.add.Goals as goal

pub returns-then-contains_key-clause-added : goal.returns-then-contains_key-clause-added
returns-then-contains_key-clause-added c =
    let before = c.self.inside in
    sym (ap not (there before.places before.slots.items c.args.self.now c.name_of_row-name.result (name_of c.args.row) true c.self.invariant.places c.self.view_is c.name_of_row-name.ensures (sym c.if-contains_key.true ∙ c.contains_key.ensures)))

pub returns-clause-added : goal.returns-clause-added
returns-clause-added c =
    let before = c.self.inside in
    sym (ap not (there before.places before.slots.items c.args.self.now c.name_of_row-name.result (name_of c.args.row) false c.self.invariant.places c.self.view_is c.name_of_row-name.ensures (sym c.if-contains_key.false ∙ c.contains_key.ensures)))

pub returns-clause-rows : goal.returns-clause-rows
returns-clause-rows c = λ _.
    let before = c.self.inside in
    ap live (c.in-Ok.ensures.items ∙ ap (λ s. s ++ Some c.args.row ∷ []) c.reserve.ensures.items)
    ∙ live_push before.slots.items c.args.row ∙ ap (λ (l : List TextRow). l ++ c.args.row ∷ []) c.self.view_is

pub invariant_of-self-2 : goal.invariant_of-self-2
invariant_of-self-2 c =
    let before = c.self.inside in
    let none : has_name (name_of c.args.row) (live before.slots.items) ≡ false =
    there before.places before.slots.items (live before.slots.items) c.name_of_row-name.result (name_of c.args.row) false c.self.invariant.places refl c.name_of_row-name.ensures (sym c.if-contains_key.false ∙ c.contains_key.ensures) in
    record {
      places = tells_pushed before.places c.insert.new.self before.slots.items c.reserve.new.self.items c.push.new.self.items c.args.row c.name_of_row-name.result c.len.result
          c.self.invariant.places c.name_of_row-name.ensures none c.in_ok-insert.ensures.updates.0 (omega arith) c.reserve.ensures.items c.in-Ok.ensures.items;
      differ = subst DifferByName
          (sym (ap live (c.in-Ok.ensures.items ∙ ap (λ s. s ++ Some c.args.row ∷ []) c.reserve.ensures.items) ∙ live_push before.slots.items c.args.row))
          (differ_push (live before.slots.items) c.args.row c.self.invariant.differ none);
    }
