use Rattle.std.proofs.Common.{◌≡◌, ◌++◌, take}
use Rattle.std.specs.List.{filter_map}
use Rattle.border_costs.specs.Ways.{row_at}
use Rattle.border_costs.proofs.table.push_rows.Given as goal

abbrev pub invariant-loop-column : goal.invariant-loop-column
invariant-loop-column l = l.rows.items ≡ l.initial.rows.items ++ filter_map (row_at l.place l.entry) (take l.column-index l.columns)
