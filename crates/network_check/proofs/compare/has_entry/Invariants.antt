use Rattle.std.proofs.Common.{◌≡◌, length, drop}
use Rattle.std.specs.List.{list_any}
use Rattle.network_check.specs.Compare.{is_entry}
use Rattle.network_check.proofs.compare.has_entry.Given as goal

abbrev pub invariant-loop-i : goal.invariant-loop-i
invariant-loop-i l = record {
  whole : l.i-end ≡ length l.topology.entries;
  same : list_any (is_entry l.node l.from) (drop l.i l.topology.entries) ≡ list_any (is_entry l.node l.from) l.topology.entries;
}
