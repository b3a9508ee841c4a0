use Rattle.std.proofs.Common.{◌≡◌, ◌++◌, drop}
use Rattle.blind_play.specs.Making.{closed_text}
use Rattle.blind_play.proofs.telling.write_closed.Given as goal

abbrev pub invariant-loop-k : goal.invariant-loop-k
invariant-loop-k l = l.into.items ++ closed_text l.line l.parts (drop l.k l.said.kept) ≡ l.initial.into.items ++ closed_text l.line l.parts l.said.kept
