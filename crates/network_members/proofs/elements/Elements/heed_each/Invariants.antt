use Rattle.std.proofs.Common.{◌≡◌, ◌++◌, length}
use Rattle.network_members.specs.Elements.{at_domain}
use Rattle.network_members.specs.Heeding.{heeded_each, sent_at}
use Rattle.network_members.proofs.elements.Elements.heed_each.Given as goal

abbrev pub invariant-loop-reply : goal.invariant-loop-reply
invariant-loop-reply g l = l.heeded ++ heeded_each (sent_at l.peer (at_domain l.at l.self)) l.left.items ≡ heeded_each (sent_at l.peer (at_domain l.at l.self)) l.fn.replies

abbrev pub decreases-loop-reply : goal.decreases-loop-reply
decreases-loop-reply g l = length l.left.items
