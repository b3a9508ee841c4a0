use Rattle.std.proofs.Common.{◌≤◌}
use Rattle.te_links.specs.declared.fault.RowKind.TheVariants.{Node}
use Rattle.te_links.specs.Faults.{rows_of_parts}
use Rattle.te_links.specs.Checks.{NoneBefore}
use Rattle.te_links.proofs.checks.check_nodes.Given as goal

abbrev pub invariant-loop-i : goal.invariant-loop-i
invariant-loop-i l = record { none : NoneBefore (rows_of_parts l.parts) Node l.i; few : l.i ≤ 1024 }
