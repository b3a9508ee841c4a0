use Rattle.std.proofs.Common.{◌≡◌, ◌++◌, [], drop, map, take}
use Rattle.toml.specs.View.{view}
use Rattle.network_check.specs.Clashes.{broken_of, rows_clashes}
use Rattle.network_check.proofs.clashes.tell_rows.Given as goal

abbrev pub invariant-loop-i : goal.invariant-loop-i
invariant-loop-i l =
    l.into.items ++ rows_clashes (broken_of l.broken) l.section (map view (take l.i l.rows)) (map view (drop l.i l.rows)) ≡ l.initial.into.items ++ rows_clashes (broken_of l.broken) l.section [] (map view l.rows)
