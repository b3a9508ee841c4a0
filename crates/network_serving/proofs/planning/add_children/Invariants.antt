use Rattle.std.proofs.Common.{◌≡◌, ◌++◌, take}
use Rattle.std.specs.List.{flat_map}
use Rattle.network_serving.specs.Duties.{child_ways}
use Rattle.network_serving.proofs.planning.add_children.Given as goal

abbrev pub invariant-loop-i : goal.invariant-loop-i
invariant-loop-i l = l.ways ≡ l.initial.ways ++ flat_map child_ways (take l.i l.children)
