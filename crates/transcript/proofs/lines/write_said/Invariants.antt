use Rattle.std.proofs.Common.{◌≡◌, ◌++◌, drop}
use Rattle.transcript.specs.Lines.{sents_text}
use Rattle.transcript.proofs.lines.write_said.Given as goal

abbrev pub invariant-loop-k : goal.invariant-loop-k
invariant-loop-k l = l.into.items ++ sents_text l.line l.peers (drop l.k l.said.kept) ≡ l.initial.into.items ++ sents_text l.line l.peers l.said.kept
