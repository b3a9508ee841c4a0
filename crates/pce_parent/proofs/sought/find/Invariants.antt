use Rattle.std.proofs.Common.{◌≡◌, drop}
use Rattle.pce_parent.specs.Soughts.{first_sought, without_these}
use Rattle.pce_parent.proofs.sought.find.Given as goal

abbrev pub invariant-loop-i : goal.invariant-loop-i
invariant-loop-i l = first_sought l.sought (without_these l.ended l.requests.kept.rows) ≡ first_sought l.sought (without_these l.ended (drop l.i l.requests.kept.rows))
