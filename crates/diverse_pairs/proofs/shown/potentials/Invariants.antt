use Rattle.diverse_pairs.proofs.Showing.{RowsSoFar}
use Rattle.diverse_pairs.proofs.shown.potentials.Given as goal

abbrev pub invariant-loop-place : goal.invariant-loop-place
invariant-loop-place l = RowsSoFar l.topology l.heights l.top l.place l.rows.items
