use Rattle.std.proofs.Common.{◌≡◌, ◌++◌, map, string_bytes}
use Rattle.toml.specs.View.{table_view}
use Rattle.plant_text.specs.SettingsText.{names}
use Rattle.network_check.specs.Columns.{unknown_text}
use Rattle.network_check.specs.Stands.{stand_of}
use Rattle.network_check.proofs.rows.tell_unknown.Given as goal

abbrev pub invariant-loop-key : goal.invariant-loop-key
invariant-loop-key l = l.into.items ++ unknown_text (stand_of l.row) (map string_bytes l.key-iterator) ≡ l.initial.into.items ++ unknown_text (stand_of l.row) (names (table_view l.table))
