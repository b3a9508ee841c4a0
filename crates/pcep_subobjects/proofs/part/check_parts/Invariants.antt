use Rattle.std.proofs.Common.{◌≡◌, ◌+◌, length}
use Rattle.pcep_subobjects.proofs.PartLaws.{IsPassed}
use Rattle.pcep_subobjects.proofs.part.check_parts.Given as goal

abbrev pub invariant-loop-rest : goal.invariant-loop-rest
invariant-loop-rest g l = record {
  passed : IsPassed g.P.Part.at l.start l.bytes l.place l.rest;
  place : l.place + length l.rest ≡ l.start + length l.bytes;
}

abbrev pub decreases-loop-rest : goal.decreases-loop-rest
decreases-loop-rest g l = length l.rest
