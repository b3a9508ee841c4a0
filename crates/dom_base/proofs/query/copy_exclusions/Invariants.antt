use Rattle.std.proofs.Common.{◌≡◌, take}
use Rattle.dom_base.proofs.query.copy_exclusions.Given as goal

abbrev pub invariant-loop-exclusion : goal.invariant-loop-exclusion
invariant-loop-exclusion l = l.copies ≡ take l.exclusion-index l.list
