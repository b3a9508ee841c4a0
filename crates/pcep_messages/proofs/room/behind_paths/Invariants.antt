use Rattle.std.proofs.Common.{◌≡◌, ◌+◌, drop, length}
use Rattle.std.specs.List.{flat_map}
use Rattle.pcep_messages.specs.Spelling.{objects_text, path_objects}
use Rattle.pcep_messages.proofs.room.behind_paths.Given as goal

abbrev pub invariant-loop-path : goal.invariant-loop-path
invariant-loop-path l = length (objects_text (flat_map path_objects l.paths)) + l.left ≡ l.room + length (objects_text (flat_map path_objects (drop l.path-index l.paths)))
