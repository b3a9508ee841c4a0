use Rattle.std.proofs.Common.{◌≡◌, ◌++◌, drop}
use Rattle.plant_client.specs.Asking.{topologies, topologies_at}
use Rattle.plant_client.proofs.asking.topologies.Given as goal

abbrev pub invariant-loop-at : goal.invariant-loop-at
invariant-loop-at l = l.found.items ++ topologies_at l.rows (drop l.at-index l.at-items) ≡ topologies l.rows
