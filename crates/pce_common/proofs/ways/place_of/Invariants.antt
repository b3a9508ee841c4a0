use Rattle.pce_common.proofs.WayLemmas.{Skips}
use Rattle.pce_common.proofs.ways.place_of.Given as goal

abbrev pub invariant-loop-i : goal.invariant-loop-i
invariant-loop-i l = Skips l.peer l.i l.rows
