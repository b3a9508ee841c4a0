use Rattle.std.proofs.Common.{arith, ap, sym, ◌∙◌, subst, ◌++◌, ◌∷◌, []}
use Rattle.atomic_table.specs.Table.{opening}
use Rattle.plant_lock.specs.declared.view.Slot.TheVariants.{Value}
use Rattle.plant_lock.specs.Rule.{Ruled}
use Rattle.plant_lock.specs.Views.{opened}
use Rattle.plant_lock.proofs.Keeps.{opens}
use Rattle.plant_lock.proofs.seat.Turnstile.open.Goals as goal

pub new-requires : goal.new-requires
new-requires g c = let tu = g.T.Turned in
    subst (λ l. Ruled tu.plain tu.admits tu.allows tu.after c.of.result.value c.args.seats (opening (0 ∷ 0 ∷ []) l (opened c.of.result.value c.args.seats)))
    (sym (c.in_ok-push.ensures.items ∙ ap (λ l. l ++ Value c.args.value ∷ []) c.new-slots.ensures.items))
    (opens tu.plain tu.admits tu.allows tu.after c.of.result.value c.args.seats c.args.value (sym c.of.ensures) (omega arith))
