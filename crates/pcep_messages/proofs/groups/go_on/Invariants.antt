use Rattle.std.proofs.Common.{◌≡◌, [], drop}
use Rattle.pcep_messages.specs.Groups.{closes_by, cut}
use Rattle.pcep_messages.proofs.groups.go_on.Given as goal

abbrev pub invariant-loop-object : goal.invariant-loop-object
invariant-loop-object l =
    cut (closes_by l.by) l.ended (drop l.object-index l.objects) ≡ (drop l.object-index l.objects, []) →
    cut (closes_by l.by) l.closed l.objects ≡ (l.objects, [])
