use Rattle.std.proofs.Common.{◌≡◌}
use Rattle.cost_cache.specs.Hops.{AreNextsUpTo}
use Rattle.cost_cache.proofs.nexts.nexts_of.Given as goal

abbrev pub invariant-loop-place : goal.invariant-loop-place
invariant-loop-place g l = record {
  same : g.G.Links.rows l.links ≡ g.G.Links.rows l.initial.links;
  nexts : AreNextsUpTo (g.G.Links.rows l.initial.links) l.query l.seeds l.labels l.place l.nexts.items;
}
