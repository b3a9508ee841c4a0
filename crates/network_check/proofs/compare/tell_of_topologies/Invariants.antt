use Rattle.std.proofs.Common.{◌≡◌, ◌++◌, drop}
use Rattle.network_check.specs.Compare.{topologies_text}
use Rattle.network_check.proofs.compare.tell_of_topologies.Given as goal

abbrev pub invariant-loop-i : goal.invariant-loop-i
invariant-loop-i l = l.into.items ++ topologies_text l.seen (drop l.i l.seen) ≡ l.initial.into.items ++ topologies_text l.seen l.seen
