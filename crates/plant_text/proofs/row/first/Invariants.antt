use Rattle.std.proofs.Common.{◌≡◌, drop}
use Rattle.plant_text.specs.Faults.{first_of}
use Rattle.plant_text.proofs.row.first.Given as goal

abbrev pub invariant-loop-rule : goal.invariant-loop-rule
invariant-loop-rule l = first_of l.rules ≡ first_of (drop l.rule-index l.rules)
