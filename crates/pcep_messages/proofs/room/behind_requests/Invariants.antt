use Rattle.std.proofs.Common.{◌≡◌, ◌+◌, drop, length}
use Rattle.std.specs.List.{flat_map}
use Rattle.pcep_messages.specs.Spelling.{objects_text}
use Rattle.pcep_messages.proofs.room.behind_requests.Given as goal

abbrev pub invariant-loop-request : goal.invariant-loop-request
invariant-loop-request l = length (objects_text (flat_map (λ a. a.objects) l.asked)) + l.left ≡ l.room + length (objects_text (flat_map (λ a. a.objects) (drop l.request-index l.asked)))
