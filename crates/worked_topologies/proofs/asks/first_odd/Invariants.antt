use Rattle.std.proofs.Common.{length}
use Rattle.std.specs.Arc.{arc_value}
use Rattle.cost_cache.specs.Entries.{IsGoodForAll}
use Rattle.worked_topologies.proofs.asks.first_odd.Given as goal

abbrev pub invariant-loop-line : goal.invariant-loop-line
invariant-loop-line l = IsGoodForAll (arc_value l.topology) l.cache

abbrev pub decreases-loop-line : goal.decreases-loop-line
decreases-loop-line l = length l.lines
