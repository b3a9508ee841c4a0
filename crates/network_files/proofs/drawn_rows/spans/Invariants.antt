use Rattle.std.proofs.Common.{◌≡◌, ◌+◌, ℕ}
use Rattle.std.specs.List.{flat_map, range_with_len}
use Rattle.network_files.specs.DrawnRows.{spans_to}
use Rattle.network_files.proofs.drawn_rows.spans.Given as goal

abbrev pub invariant-loop-to : goal.invariant-loop-to
invariant-loop-to l = (n : ℕ) × (1 + n ≡ l.to) × (l.found.items ≡ flat_map spans_to (range_with_len 1 n))
