use Rattle.std.proofs.Common.{◌≡◌, ◌+◌, ℕ, map}
use Rattle.std.specs.List.{range_with_len}
use Rattle.network_files.specs.DrawnRows.{node}
use Rattle.network_files.proofs.drawn_rows.nodes_of.Given as goal

abbrev pub invariant-loop-number : goal.invariant-loop-number
invariant-loop-number l = (n : ℕ) × (1 + n ≡ l.number) × (l.nodes.items ≡ map (node l.domain) (range_with_len 1 n))
