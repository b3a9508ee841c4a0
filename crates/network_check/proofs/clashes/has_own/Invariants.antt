use Rattle.std.proofs.Common.{◌≡◌, drop, map}
use Rattle.toml.specs.View.{view}
use Rattle.network_check.specs.Clashes.{has_row, is_own}
use Rattle.network_check.proofs.clashes.has_own.Given as goal

abbrev pub invariant-loop-row : goal.invariant-loop-row
invariant-loop-row l = has_row (is_own l.domain) (map view (drop l.row-index l.elements)) ≡ has_row (is_own l.domain) (map view l.elements)
