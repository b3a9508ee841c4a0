use Rattle.std.proofs.Common.{◌≡◌, drop}
use Rattle.pcep_messages.specs.Said.{metrics_of}
use Rattle.pcep_messages.specs.Refusals.{asked_type}
use Rattle.pcep_messages.proofs.said.metric_type.Given as goal

abbrev pub invariant-loop-object : goal.invariant-loop-object
invariant-loop-object l = asked_type (metrics_of (drop l.object-index l.objects)) ≡ asked_type (metrics_of l.objects)
