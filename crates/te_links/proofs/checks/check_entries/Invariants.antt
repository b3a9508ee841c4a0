use Rattle.std.proofs.Common.{◌<◌, ◌^◌, take}
use Rattle.std.specs.Prelude.{All}
use Rattle.te_links.specs.declared.fault.RowKind.TheVariants.{Entry as EntryRow}
use Rattle.te_links.specs.Faults.{rows_of_parts}
use Rattle.te_links.specs.Checks.{NoneBefore}
use Rattle.te_links.proofs.checks.check_entries.Given as goal

abbrev pub invariant-loop-i : goal.invariant-loop-i
invariant-loop-i l = record {
  none : NoneBefore (rows_of_parts l.parts) EntryRow l.i;
  numbers : All (λ e. e.from_as.0 < 2 ^ 16) (take l.i l.parts.entries);
}
