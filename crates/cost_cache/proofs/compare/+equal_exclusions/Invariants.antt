use Rattle.std.proofs.Common.{length}
use Rattle.cost_cache.proofs.compare.+equal_exclusions.Given as goal

abbrev pub decreases-equal_exclusions : goal.decreases-equal_exclusions
decreases-equal_exclusions l = length l.a.now
