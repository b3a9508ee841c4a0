use Rattle.std.proofs.Common.{◌≡◌, ◌+◌, drop, length}
use Rattle.std.specs.List.{flat_map}
use Rattle.pcep_messages.specs.Spelling.{objects_text, reply_objects}
use Rattle.pcep_messages.proofs.room.behind_replies.Given as goal

abbrev pub invariant-loop-reply : goal.invariant-loop-reply
invariant-loop-reply l = length (objects_text (flat_map reply_objects l.replies)) + l.left ≡ l.room + length (objects_text (flat_map reply_objects (drop l.reply-index l.replies)))
