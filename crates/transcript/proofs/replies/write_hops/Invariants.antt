use Rattle.std.proofs.Common.{◌≡◌, ◌++◌, drop}
use Rattle.transcript.specs.Replies.{hop_lines}
use Rattle.transcript.proofs.replies.write_hops.Given as goal

abbrev pub invariant-loop-hop : goal.invariant-loop-hop
invariant-loop-hop l = l.into.items ++ hop_lines (drop l.hop-index l.hops) ≡ l.initial.into.items ++ hop_lines l.hops
