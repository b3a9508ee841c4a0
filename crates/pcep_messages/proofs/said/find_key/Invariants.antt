use Rattle.std.proofs.Common.{◌≡◌, drop}
use Rattle.pcep_messages.specs.Said.{key_of}
use Rattle.pcep_messages.proofs.said.find_key.Given as goal

abbrev pub invariant-loop-object : goal.invariant-loop-object
invariant-loop-object l = key_of (drop l.object-index l.objects) ≡ key_of l.objects
