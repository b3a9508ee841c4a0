use Rattle.std.proofs.Common.{◌≡◌, ◌++◌, Some, length, map}
use Rattle.network_links.proofs.inbox.push_parts.Given as goal

abbrev pub invariant-loop-part : goal.invariant-loop-part
invariant-loop-part l = l.items.items ++ map Some l.left.items ≡ l.initial.items.items ++ map Some l.fn.parts

abbrev pub decreases-loop-part : goal.decreases-loop-part
decreases-loop-part l = length l.left.items
