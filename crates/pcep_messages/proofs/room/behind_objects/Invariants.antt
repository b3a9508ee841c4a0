use Rattle.std.proofs.Common.{◌≡◌, ◌+◌, drop, length}
use Rattle.pcep_messages.specs.Spelling.{objects_text}
use Rattle.pcep_messages.proofs.room.behind_objects.Given as goal

abbrev pub invariant-loop-object : goal.invariant-loop-object
invariant-loop-object l = length (objects_text (l.objects)) + l.left ≡ l.room + length (objects_text ((drop l.object-index l.objects)))
