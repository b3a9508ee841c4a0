use Rattle.te_deltas.specs.Blame.{NoneFrom}
use Rattle.te_deltas.proofs.blaming.last_of.Given as goal

-- no change from here on is of the name
abbrev pub invariant-loop-place : goal.invariant-loop-place
invariant-loop-place l = NoneFrom l.place l.changes l.name
