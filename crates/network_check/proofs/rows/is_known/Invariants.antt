use Rattle.std.proofs.Common.{◌≡◌, drop, map}
use Rattle.network_check.specs.Columns.{is_column}
use Rattle.network_check.specs.Sections.{column}
use Rattle.network_check.proofs.rows.is_known.Given as goal

abbrev pub invariant-loop-field : goal.invariant-loop-field
invariant-loop-field l = is_column (map column (drop l.field-index l.fields)) l.key ≡ is_column (map column l.fields) l.key
