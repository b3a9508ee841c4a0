use Rattle.std.proofs.Common.{◌≡◌, drop}
use Rattle.pcep_messages.specs.Said.{iro_of}
use Rattle.pcep_messages.specs.Refusals.{can_follow}
use Rattle.pcep_messages.proofs.refusing.follows.Given as goal

abbrev pub invariant-loop-object : goal.invariant-loop-object
invariant-loop-object l = can_follow l.own.0 (iro_of (drop l.object-index l.objects)) ≡ can_follow l.own.0 (iro_of l.objects)
