use Rattle.std.proofs.Common.{take}
use Rattle.cost_cache.specs.Hops.{AreEnds}
use Rattle.cost_cache.proofs.ends.ends_of.Given as goal

abbrev pub invariant-loop-seed : goal.invariant-loop-seed
invariant-loop-seed g l = AreEnds (g.G.Links.rows l.links) (take l.seed-index l.seeds) l.labels l.ends.items
