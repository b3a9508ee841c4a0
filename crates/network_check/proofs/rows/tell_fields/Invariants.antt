use Rattle.std.proofs.Common.{◌≡◌, ◌++◌, drop, map}
use Rattle.toml.specs.View.{table_view}
use Rattle.network_check.specs.Columns.{columns_text}
use Rattle.network_check.specs.Sections.{column}
use Rattle.network_check.specs.Stands.{stand_of}
use Rattle.network_check.proofs.rows.tell_fields.Given as goal

abbrev pub invariant-loop-field : goal.invariant-loop-field
invariant-loop-field l = l.into.items ++ columns_text (stand_of l.row) (table_view l.table) (map column (drop l.field-index l.fields)) ≡ l.initial.into.items ++ columns_text (stand_of l.row) (table_view l.table) (map column l.fields)
