use Rattle.std.proofs.Common.{◌≤◌}
use Rattle.worked_members.proofs.element.first_wrong.Given as goal

abbrev pub invariant-loop-row : goal.invariant-loop-row
invariant-loop-row l = l.element.losing.element.keys.clock ≤ l.now.0
