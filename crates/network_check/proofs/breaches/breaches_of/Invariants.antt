use Rattle.std.proofs.Common.{◌-◌, length}
use Rattle.network_check.specs.Breaches.{breaches_max}
use Rattle.network_check.proofs.Passing.{IsUnderWay}
use Rattle.network_check.proofs.breaches.breaches_of.Given as goal

abbrev pub invariant-loop-alloc : goal.invariant-loop-alloc
invariant-loop-alloc l = IsUnderWay l.at l.fn.file l.text.items l.breaches

abbrev pub decreases-loop-alloc : goal.decreases-loop-alloc
decreases-loop-alloc l = breaches_max - length l.breaches
