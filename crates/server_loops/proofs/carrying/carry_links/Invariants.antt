use Rattle.server_loops.specs.Sites.{Stays}
use Rattle.server_loops.proofs.Rounds.{IsMaking}
use Rattle.server_loops.proofs.carrying.carry_links.Given as goal

abbrev pub invariant-loop-turn : goal.invariant-loop-turn
invariant-loop-turn g l = record {
  making : IsMaking l.links l._turn (g.D.Desk.desked l.initial.desk) (g.D.Desk.desked l.desk);
  stays : Stays g.D.Sited.is_at l.initial.desk l.desk;
}
