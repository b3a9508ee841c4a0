use Rattle.std.proofs.Common.{◌≡◌, drop}
use Rattle.pcep_messages.specs.Said.{masks_of}
use Rattle.pcep_messages.proofs.said.find_masks.Given as goal

abbrev pub invariant-loop-object : goal.invariant-loop-object
invariant-loop-object l = masks_of (drop l.object-index l.objects) ≡ masks_of l.objects
