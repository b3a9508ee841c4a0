use Rattle.std.proofs.Common.{◌≡◌}
use Rattle.plant_text.specs.Faults.{first_of}
use Rattle.plant_text.proofs.RuleLaws.{rules_on}
use Rattle.plant_text.proofs.check.check_rows.Given as goal

abbrev pub invariant-loop-i : goal.invariant-loop-i
invariant-loop-i g l =
    first_of (rules_on l.fn.name l.fn.limit (g.R.Row.rules l.fn.sheet) l.fn.rows 0)
    ≡ first_of (rules_on l.fn.name l.fn.limit (g.R.Row.rules l.fn.sheet) l.fn.rows l.i)
