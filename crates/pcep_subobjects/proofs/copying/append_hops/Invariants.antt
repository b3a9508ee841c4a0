use Rattle.std.proofs.Common.{◌≡◌, ◌++◌, take}
use Rattle.pcep_subobjects.proofs.copying.append_hops.Given as goal

abbrev pub invariant-loop-hop : goal.invariant-loop-hop
invariant-loop-hop l = l.hops ≡ l.initial.hops ++ take l.hop-index l.more
