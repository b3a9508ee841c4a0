use Rattle.std.proofs.Common.{◌≡◌, ◌++◌, drop}
use Rattle.pce_element.specs.Answering.{closed_parts}
use Rattle.pce_element.proofs.answering.closed_parts.Given as goal

abbrev pub invariant-loop-row : goal.invariant-loop-row
invariant-loop-row l = l.parts ++ closed_parts l.pce l.target l.number (drop l.row-index l.best) ≡ closed_parts l.pce l.target l.key l.best
