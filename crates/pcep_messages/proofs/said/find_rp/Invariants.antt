use Rattle.std.proofs.Common.{◌≡◌, drop}
use Rattle.pcep_messages.specs.Said.{rp_of}
use Rattle.pcep_messages.proofs.said.find_rp.Given as goal

abbrev pub invariant-loop-object : goal.invariant-loop-object
invariant-loop-object l = rp_of (drop l.object-index l.objects) ≡ rp_of l.objects
