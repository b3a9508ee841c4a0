use Rattle.std.proofs.Common.{◌≡◌, length, drop}
use Rattle.std.specs.List.{list_any}
use Rattle.network_check.specs.Compare.{is_out}
use Rattle.network_check.proofs.compare.has_out.Given as goal

abbrev pub invariant-loop-i : goal.invariant-loop-i
invariant-loop-i l = record {
  whole : l.i-end ≡ length l.topology.outs;
  same : list_any (is_out l.node l.to) (drop l.i l.topology.outs) ≡ list_any (is_out l.node l.to) l.topology.outs;
}
