use Rattle.std.proofs.Common.{◌≡◌, length}
use Rattle.pcep_messages.specs.Refusals.{domains, has_twice}
use Rattle.pcep_messages.proofs.refusing.names_twice.Given as goal

abbrev pub invariant-loop-rest : goal.invariant-loop-rest
invariant-loop-rest l = has_twice (domains l.rest) ≡ has_twice (domains l.fn.route)

abbrev pub decreases-loop-rest : goal.decreases-loop-rest
decreases-loop-rest l = length l.rest
