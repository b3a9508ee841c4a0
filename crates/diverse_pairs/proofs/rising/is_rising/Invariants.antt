use Rattle.std.proofs.Common.{ℕ, ◌<◌, get_or}
use Rattle.dom_base.specs.AddrOrder.{rank}
use Rattle.dom_base.specs.declared.addr.Addr.{Addr}
use Rattle.diverse_pairs.proofs.rising.is_rising.Given as goal

-- the rows so far rise
abbrev pub invariant-loop-index : goal.invariant-loop-index
invariant-loop-index l = (j k : ℕ) (d : Addr × ℕ) → j < k → k < l.index → rank (get_or l.potentials j d).0 < rank (get_or l.potentials k d).0
