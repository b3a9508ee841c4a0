use Rattle.std.proofs.Common.{◌≡◌, map, take}
use Rattle.pce_parent.specs.Costs.{start_cost}
use Rattle.pce_parent.proofs.starts.starts_of.Given as goal

abbrev pub invariant-loop-spot : goal.invariant-loop-spot
invariant-loop-spot l = l.costs.items ≡ map (start_cost l.job.target) (take l.spot-index l.spots)
