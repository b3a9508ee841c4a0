use Rattle.std.proofs.Common.{◌≡◌, drop, map}
use Rattle.toml.specs.View.{view}
use Rattle.network_check.specs.Clashes.{are_known}
use Rattle.network_check.proofs.clashes.are_known.Given as goal

abbrev pub invariant-loop-row : goal.invariant-loop-row
invariant-loop-row l = are_known (map view (drop l.row-index l.elements)) ≡ are_known (map view l.elements)
