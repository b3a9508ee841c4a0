use Rattle.std.proofs.Common.{rules, sym, subst, ◌<◌}
use Rattle.plant_lock.proofs.Keeps.{looks}
use Rattle.plant_lock.proofs.seat.Turnstile.approach.Goals as goal

pub load-met-requires : goal.load-met-requires
load-met-requires g c = (search rules, search rules, looks _ _ _ _ _ _ _ _ _ c.requires.live)

pub load-met-requires-in-loop-wait : goal.load-met-requires-in-loop-wait
load-met-requires-in-loop-wait g c = (search rules, search rules, looks _ _ _ _ _ _ _ _ _ (subst (λ m. 0 < m.0.shares) (sym c.loop-wait.invariant.2) c.requires.live))
