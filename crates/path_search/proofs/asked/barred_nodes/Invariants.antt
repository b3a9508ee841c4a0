use Rattle.path_search.specs.Asked.{AreBarredUpTo}
use Rattle.path_search.proofs.asked.barred_nodes.Given as goal

abbrev pub invariant-loop-i : goal.invariant-loop-i
invariant-loop-i g l = AreBarredUpTo (g.G.Links.rows l.links) l.prepared l.barred.items l.i
