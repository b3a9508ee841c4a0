use Rattle.std.proofs.Common.{ap, sym, ◌∙◌, subst, ◌<◌, ◌≡◌}
use mathlib.Core.Option.{some, some-injective}
use Rattle.plant_lock.specs.declared.view.Slot.TheVariants.{Value}
use Rattle.plant_lock.specs.Views.{LeadsTo}
use Rattle.plant_lock.proofs.Keeps.{closes}
use Rattle.plant_lock.proofs.seat.Turnstile.close.Goals as goal

pub unreachable-requires : goal.unreachable-requires
unreachable-requires g c = let tu = g.T.Turned in let last = c.close_with-closed.ensures.values.2 in
    let end = closes tu.plain tu.admits tu.allows tu.after c.args.self.table.shared.key.value.value c.args.self.table.shared.key.seats _ _ last.0 last.1.0 last.1.1 c.requires.all (subst (λ n. 0 < n) (c.args.seat.counted ∙ c.requires.all) c.args.seat.live) c.args.seat.idle in
    c.in_default.not-Value end.1 (some-injective _ _ (sym c.take-slot.ensures.value ∙ last.4 0 (Value end.1) end.2))

pub returns : goal.returns
returns g c = let tu = g.T.Turned in let last = c.close_with-closed.ensures.values.2 in
    let end = closes tu.plain tu.admits tu.allows tu.after c.args.self.table.shared.key.value.value c.args.self.table.shared.key.seats _ _ last.0 last.1.0 last.1.1 c.requires.all (subst (λ n. 0 < n) (c.args.seat.counted ∙ c.requires.all) c.args.seat.live) c.args.seat.idle in record {
      history = end.0;
      begins = end.3;
      legal = end.4;
      left = subst (λ x. LeadsTo tu.plain tu.admits tu.allows tu.after c.args.seat.seat.me.0.start end.0 (tu.plain x))
          (let e : Value end.1 ≡ Value c.in-Value.value = some-injective _ _ (sym (last.4 0 (Value end.1) end.2) ∙ (c.take-slot.ensures.value ∙ ap (λ k. some k) c.in-Value.is)) in cc) end.5;
      placed = end.6;
    }
