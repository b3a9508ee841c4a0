use Rattle.std.proofs.Common.{◌≡◌, drop}
use Rattle.pcep_messages.specs.Said.{bandwidth_of}
use Rattle.pcep_messages.proofs.said.find_bandwidth.Given as goal

abbrev pub invariant-loop-object : goal.invariant-loop-object
invariant-loop-object l = bandwidth_of (drop l.object-index l.objects) ≡ bandwidth_of l.objects
