use Rattle.server_loops.specs.Sites.{Stays}
use Rattle.server_loops.proofs.Rounds.{IsCarrying}
use Rattle.server_loops.proofs.carrying.carry_round.Given as goal

abbrev pub invariant-loop-from : goal.invariant-loop-from
invariant-loop-from g l = record {
  carrying : IsCarrying l.links l.from-index (g.D.Desk.desked l.initial.desk) (g.D.Desk.desked l.desk);
  stays : Stays g.D.Sited.is_at l.initial.desk l.desk;
}
