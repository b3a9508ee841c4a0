use Rattle.std.proofs.Common.{◌≡◌, ◌≤◌, take}
use Rattle.std.specs.Prelude.{count_by}
use Rattle.pcep_messages.specs.Refusals.{is_minimised}
use Rattle.pcep_messages.proofs.said.count_minimised.Given as goal

abbrev pub invariant-loop-object : goal.invariant-loop-object
invariant-loop-object l = record {
  counted : l.count ≡ count_by is_minimised (take l.object-index l.objects);
  few : l.count ≤ l.object-index;
}
