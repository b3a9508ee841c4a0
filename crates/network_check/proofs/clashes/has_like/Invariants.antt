use Rattle.std.proofs.Common.{◌≡◌, drop, map}
use Rattle.toml.specs.View.{table_view, view}
use Rattle.network_check.specs.Clashes.{has_row, is_like}
use Rattle.network_check.proofs.clashes.has_like.Given as goal

abbrev pub invariant-loop-row : goal.invariant-loop-row
invariant-loop-row l = has_row (λ a. is_like l.section a (table_view l.table)) (map view (drop l.row-index l.rows)) ≡ has_row (λ a. is_like l.section a (table_view l.table)) (map view l.rows)
