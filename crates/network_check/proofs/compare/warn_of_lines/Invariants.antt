use Rattle.std.proofs.Common.{◌≡◌, ◌++◌, length}
use Rattle.line_text.specs.Lines.{told_lines}
use Rattle.network_check.specs.Compare.{lines_warnings}
use Rattle.network_check.proofs.compare.warn_of_lines.Given as goal

abbrev pub invariant-loop-line : goal.invariant-loop-line
invariant-loop-line l = l.into.items ++ lines_warnings l.seen l.one l.lines ≡ l.initial.into.items ++ lines_warnings l.seen l.one (told_lines l.text)

abbrev pub decreases-loop-line : goal.decreases-loop-line
decreases-loop-line l = length l.lines
