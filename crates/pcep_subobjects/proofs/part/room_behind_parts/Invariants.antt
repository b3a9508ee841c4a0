use Rattle.std.proofs.Common.{◌≡◌, ◌+◌, drop, length}
use Rattle.std.specs.List.{flat_map}
use Rattle.pcep_subobjects.proofs.part.room_behind_parts.Given as goal

abbrev pub invariant-loop-part : goal.invariant-loop-part
invariant-loop-part g l = length (flat_map g.P.Spelled.spelling l.list) + l.left ≡ l.room + length (flat_map g.P.Spelled.spelling (drop l.part-index l.list))
