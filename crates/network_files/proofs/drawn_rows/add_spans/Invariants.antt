use Rattle.std.proofs.Common.{◌≡◌, ◌+◌, ◌++◌, ℕ, map}
use Rattle.std.specs.List.{filter, range_with_len}
use Rattle.network_files.specs.DrawnRows.{are_joined, span}
use Rattle.network_files.proofs.drawn_rows.add_spans.Given as goal

abbrev pub invariant-loop-from : goal.invariant-loop-from
invariant-loop-from l = (n : ℕ) × (1 + n ≡ l.from) × (l.into.items ≡ l.initial.into.items ++ filter (λ s. are_joined s.from s.to) (map (span l.to) (range_with_len 1 n)))
