use Rattle.std.proofs.Common.{◌≡◌, drop}
use Rattle.pcep_messages.specs.Said.{metrics_of}
use Rattle.pcep_messages.specs.Requests.{bound_of}
use Rattle.pcep_messages.proofs.said.find_bound.Given as goal

abbrev pub invariant-loop-object : goal.invariant-loop-object
invariant-loop-object l = bound_of (metrics_of (drop l.object-index l.objects)) ≡ bound_of (metrics_of l.objects)
