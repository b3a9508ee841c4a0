use Rattle.pce_parent.specs.Costs.{AreReached}
use Rattle.pce_parent.proofs.order.relax_into.Given as goal

abbrev pub invariant-loop-index : goal.invariant-loop-index
invariant-loop-index l = AreReached l.job l.spots l.costs
