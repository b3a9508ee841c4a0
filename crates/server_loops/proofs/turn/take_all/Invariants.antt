use Rattle.server_loops.specs.Sites.{Stays}
use Rattle.server_loops.proofs.Turning.{IsTaking}
use Rattle.server_loops.proofs.turn.take_all.Given as goal

abbrev pub invariant-loop-take : goal.invariant-loop-take
invariant-loop-take g l = record {
  taking : IsTaking l.peer l._take (g.D.Desk.desked l.initial.desk) (g.D.Desk.desked l.desk);
  stays : Stays g.D.Sited.is_at l.initial.desk l.desk;
}
