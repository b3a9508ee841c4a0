use Rattle.pce_parent.specs.Costs.{AreReached}
use Rattle.pce_parent.proofs.order.relax_in_order.Given as goal

abbrev pub invariant-loop-turn : goal.invariant-loop-turn
invariant-loop-turn l = AreReached l.job l.spots l.costs
