use Rattle.te_generations.specs.Live.{Skips}
use Rattle.te_generations.proofs.among.place_of.Given as goal

abbrev pub invariant-loop-i : goal.invariant-loop-i
invariant-loop-i l = Skips l.number l.i l.older.items
