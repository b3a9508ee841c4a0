use Rattle.border_costs.proofs.WaysOut.{AreWaysUpTo}
use Rattle.border_costs.proofs.ways.ways_of.Given as goal

abbrev pub invariant-loop-index : goal.invariant-loop-index
invariant-loop-index g l = AreWaysUpTo (g.G.Links.rows l.links) l.ask.query l.next l.index l.ways.items
