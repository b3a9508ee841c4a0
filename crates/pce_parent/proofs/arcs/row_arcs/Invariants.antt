use Rattle.pce_parent.specs.Arcs.{AreRowArcs}
use Rattle.pce_parent.proofs.arcs.row_arcs.Given as goal

abbrev pub invariant-loop-index : goal.invariant-loop-index
invariant-loop-index l = AreRowArcs l.job l.spots.keys l.index l.arcs.items
