use Rattle.std.proofs.Common.{◌≡◌, drop}
use Rattle.pcep_messages.specs.Said.{end_points_of}
use Rattle.pcep_messages.proofs.said.find_end_points.Given as goal

abbrev pub invariant-loop-object : goal.invariant-loop-object
invariant-loop-object l = end_points_of l.own.0 (drop l.object-index l.objects) ≡ end_points_of l.own.0 l.objects
