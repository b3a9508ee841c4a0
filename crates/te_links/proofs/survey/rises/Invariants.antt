use Rattle.std.proofs.Common.{◌<◌, ℕ, length}
use Rattle.std.specs.Prelude.{slice_index_or}
use Rattle.dom_base.specs.AddrOrder.{rank}
use Rattle.dom_base.specs.declared.addr.Addr.{Addr}
use Rattle.te_links.proofs.survey.rises.Given as goal

-- the addresses so far rise
abbrev pub invariant-loop-i : goal.invariant-loop-i
invariant-loop-i l = (j k : ℕ) (d : Addr) → j < k → k < l.i → k < length l.addrs → rank (slice_index_or l.addrs j d) < rank (slice_index_or l.addrs k d)
