use Rattle.pce_parent.proofs.Answering.{NoneBefore}
use Rattle.pce_parent.proofs.asking.place_for.Given as goal

abbrev pub invariant-loop-i : goal.invariant-loop-i
invariant-loop-i l = NoneBefore l.peer l.id l.i l.waits
