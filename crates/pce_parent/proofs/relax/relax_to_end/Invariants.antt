use Rattle.pce_parent.specs.Costs.{AreReached, potential}
use Rattle.pce_parent.proofs.relax.relax_to_end.Given as goal

abbrev pub invariant-loop-by_rows : goal.invariant-loop-by_rows
invariant-loop-by_rows l = AreReached l.job l.spots l.costs

abbrev pub decreases-loop-by_rows : goal.decreases-loop-by_rows
decreases-loop-by_rows l = potential l.costs
