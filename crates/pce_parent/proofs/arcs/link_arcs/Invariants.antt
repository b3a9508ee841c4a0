use Rattle.pce_parent.specs.Arcs.{AreLinkArcs}
use Rattle.pce_parent.proofs.arcs.link_arcs.Given as goal

abbrev pub invariant-loop-index : goal.invariant-loop-index
invariant-loop-index l = AreLinkArcs l.job l.spots.keys l.index l.arcs.items
