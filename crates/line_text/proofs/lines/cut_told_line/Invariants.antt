use Rattle.std.proofs.Common.{◌≡◌, ◌+◌, ◌<◌, ◌^◌, length}
use Rattle.std.specs.Str.Lines.{lines}
use Rattle.line_text.specs.Lines.{told_after}
use Rattle.line_text.proofs.lines.cut_told_line.Given as goal

abbrev pub invariant-loop-line : goal.invariant-loop-line
invariant-loop-line l = record {
  told : told_after l.number (lines l.rest) ≡ told_after l.fn.before (lines l.fn.text);
  fits : l.number + length (lines l.rest) < 2 ^ 32;
}

abbrev pub decreases-loop-line : goal.decreases-loop-line
decreases-loop-line l = length l.rest
