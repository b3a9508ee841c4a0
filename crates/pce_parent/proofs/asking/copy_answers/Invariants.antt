use Rattle.std.proofs.Common.{◌≡◌, take}
use Rattle.pce_parent.specs.Joined.{joined}
use Rattle.pce_parent.proofs.asking.copy_answers.Given as goal

abbrev pub invariant-loop-answer : goal.invariant-loop-answer
invariant-loop-answer l = l.rows ≡ joined (take l.answer-index l.answers)
