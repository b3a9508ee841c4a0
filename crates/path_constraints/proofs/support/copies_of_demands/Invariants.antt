use Rattle.std.proofs.Common.{◌≡◌, take}
use Rattle.path_constraints.specs.Support.{demands}
use Rattle.path_constraints.proofs.support.copies_of_demands.Given as goal

abbrev pub invariant-loop-exclusion : goal.invariant-loop-exclusion
invariant-loop-exclusion l = l.kept ≡ demands (take l.exclusion-index l.list)
