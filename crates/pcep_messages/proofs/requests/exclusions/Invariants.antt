use Rattle.std.proofs.Common.{◌≡◌, drop}
use Rattle.pcep_messages.specs.Said.{xro_of}
use Rattle.pcep_messages.proofs.requests.exclusions.Given as goal

abbrev pub invariant-loop-object : goal.invariant-loop-object
invariant-loop-object l = xro_of (drop l.object-index l.objects) ≡ xro_of l.objects
