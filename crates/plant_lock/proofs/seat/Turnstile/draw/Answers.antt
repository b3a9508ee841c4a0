use Rattle.std.proofs.Common.{rules, arith, refl, sym, subst, ◌<◌, ◌≡◌, ◌^◌}
use Rattle.plant_lock.specs.declared.view.SeatStage.TheVariants.{Idle}
use Rattle.plant_lock.proofs.Keeps.{draws}
use Rattle.plant_lock.proofs.seat.Turnstile.draw.Goals as goal

pub compare_exchange-found-requires : goal.compare_exchange-found-requires
compare_exchange-found-requires g c =
    let was = sym c.loop.invariant.2 in let at = sym c.approach-met.ensures.met in let low : c.approach-met.result < 2 ^ 63 = grind arith in (
      search rules,
      search rules,
      draws _ _ _ _ _ _ _ _ _ _ _ (subst (λ m. 0 < m.0.shares) at (subst (λ m. 0 < m.0.shares) was c.requires.live.0))
          (subst (λ m. m.0.stage ≡ Idle) at (subst (λ m. m.0.stage ≡ Idle) was c.requires.live.1)) low refl,
    )
