use Rattle.std.proofs.Common.{◌≤◌, ◌<◌, ◌-◌, length, slice_index_or}
use Rattle.dom_base.specs.AddrOrder.{rank}
use Rattle.dom_base.specs.declared.addr.Addr.{Addr}
use Rattle.path_constraints.proofs.spans.place_of.Given as goal

abbrev pub invariant-loop-low : goal.invariant-loop-low
invariant-loop-low l = record {
  order : l.low ≤ l.high;
  bound : l.high ≤ length l.spans;
  before : (d : Addr × Addr) → 0 < l.low → rank (slice_index_or l.spans (l.low - 1) d).0 ≤ rank l.addr;
  behind : (d : Addr × Addr) → l.high < length l.spans → rank l.addr < rank (slice_index_or l.spans l.high d).0;
}

abbrev pub decreases-loop-low : goal.decreases-loop-low
decreases-loop-low l = l.high - l.low
