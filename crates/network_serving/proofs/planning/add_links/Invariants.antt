use Rattle.std.proofs.Common.{◌≡◌, ◌++◌, take}
use Rattle.std.specs.List.{flat_map}
use Rattle.network_serving.specs.Duties.{both_ways}
use Rattle.network_serving.proofs.planning.add_links.Given as goal

abbrev pub invariant-loop-i : goal.invariant-loop-i
invariant-loop-i l = l.ways ≡ l.initial.ways ++ flat_map both_ways (take l.i l.links)
