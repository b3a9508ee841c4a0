use Rattle.border_costs.proofs.Seeding.{AreSeedsUpTo}
use Rattle.border_costs.proofs.seeds.seeds_of.Given as goal

abbrev pub invariant-loop-index : goal.invariant-loop-index
invariant-loop-index g l = AreSeedsUpTo (g.G.Links.rows l.links) l.ask.query l.next l.ask.down l.index l.seeds.items
