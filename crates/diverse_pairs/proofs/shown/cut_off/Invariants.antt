use Rattle.diverse_pairs.proofs.Showing.{CutSoFar}
use Rattle.diverse_pairs.proofs.shown.cut_off.Given as goal

abbrev pub invariant-loop-place : goal.invariant-loop-place
invariant-loop-place l = CutSoFar l.topology l.distances l.place l.nodes.items
