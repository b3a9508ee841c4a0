use Rattle.std.proofs.Common.{◌≡◌, ◌++◌, length}
use Rattle.network_check.specs.Forms.{rows_text}
use Rattle.network_check.proofs.forms.tell_rows.Given as goal

abbrev pub invariant-loop-line : goal.invariant-loop-line
invariant-loop-line l = l.into.items ++ rows_text l.file l.lines ≡ l.initial.into.items ++ rows_text l.file l.initial.lines

abbrev pub decreases-loop-line : goal.decreases-loop-line
decreases-loop-line l = length l.lines
