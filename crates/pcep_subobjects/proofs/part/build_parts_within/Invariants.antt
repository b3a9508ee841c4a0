use Rattle.std.proofs.Common.{◌≡◌, ◌+◌, length}
use Rattle.dom_base.specs.Parts.{parts_from, with_front}
use Rattle.pcep_subobjects.proofs.part.build_parts_within.Given as goal

abbrev pub invariant-loop-rest : goal.invariant-loop-rest
invariant-loop-rest g l = record {
  reading : with_front l.built (parts_from g.P.Part.at l.place 0 l.rest) ≡ parts_from g.P.Part.at l.start 0 l.bytes;
  place : l.place + length l.rest ≡ l.start + length l.bytes;
}

abbrev pub decreases-loop-rest : goal.decreases-loop-rest
decreases-loop-rest g l = length l.rest
