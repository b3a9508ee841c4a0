use Rattle.std.proofs.Common.{◌≡◌, ◌+◌, drop, length}
use Rattle.std.specs.List.{flat_map}
use Rattle.pcep_messages.specs.Spelling.{objects_text, notice_objects}
use Rattle.pcep_messages.proofs.room.behind_notices.Given as goal

abbrev pub invariant-loop-notice : goal.invariant-loop-notice
invariant-loop-notice l = length (objects_text (flat_map notice_objects l.notices)) + l.left ≡ l.room + length (objects_text (flat_map notice_objects (drop l.notice-index l.notices)))
