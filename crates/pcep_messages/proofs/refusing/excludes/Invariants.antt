use Rattle.std.proofs.Common.{◌≡◌, drop}
use Rattle.pcep_messages.specs.Said.{xro_of}
use Rattle.pcep_messages.specs.Refusals.{can_exclude}
use Rattle.pcep_messages.proofs.refusing.excludes.Given as goal

abbrev pub invariant-loop-object : goal.invariant-loop-object
invariant-loop-object l = can_exclude (xro_of (drop l.object-index l.objects)) ≡ can_exclude (xro_of l.objects)
