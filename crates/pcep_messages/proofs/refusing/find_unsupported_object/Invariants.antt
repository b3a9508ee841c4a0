use Rattle.std.proofs.Common.{◌≡◌, drop}
use Rattle.pcep_messages.specs.Refusals.{unsupported_among}
use Rattle.pcep_messages.proofs.refusing.find_unsupported_object.Given as goal

abbrev pub invariant-loop-object : goal.invariant-loop-object
invariant-loop-object l = unsupported_among l.own.0 (drop l.object-index l.objects) ≡ unsupported_among l.own.0 l.objects
