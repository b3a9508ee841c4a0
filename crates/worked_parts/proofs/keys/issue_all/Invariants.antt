use Rattle.std.proofs.Common.{◌≤◌}
use Rattle.worked_parts.proofs.keys.issue_all.Given as goal

abbrev pub invariant-loop-i : goal.invariant-loop-i
invariant-loop-i l = l.keys.kept.clock ≤ l.now.0
