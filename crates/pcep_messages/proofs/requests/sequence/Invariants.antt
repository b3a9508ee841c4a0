use Rattle.std.proofs.Common.{◌≡◌, drop}
use Rattle.pcep_messages.specs.Said.{iro_of}
use Rattle.pcep_messages.specs.Requests.{sequence_of}
use Rattle.pcep_messages.proofs.requests.sequence.Given as goal

abbrev pub invariant-loop-object : goal.invariant-loop-object
invariant-loop-object l = sequence_of (iro_of (drop l.object-index l.objects)) ≡ sequence_of (iro_of l.objects)
