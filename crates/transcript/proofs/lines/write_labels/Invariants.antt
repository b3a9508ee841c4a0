use Rattle.std.proofs.Common.{◌≡◌, ◌++◌, drop}
use Rattle.transcript.specs.Lines.{labels_text}
use Rattle.transcript.proofs.lines.write_labels.Given as goal

abbrev pub invariant-loop-row : goal.invariant-loop-row
invariant-loop-row l = l.into.items ++ labels_text l.line (drop l.row-index l.rows) ≡ l.initial.into.items ++ labels_text l.line l.rows
