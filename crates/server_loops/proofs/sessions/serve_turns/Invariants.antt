use Rattle.std.proofs.Common.{◌≡◌, length}
use Rattle.dom_edge.specs.Heeding.{sides}
use Rattle.server_loops.specs.Sites.{Stays}
use Rattle.server_loops.proofs.Serving.{IsServing}
use Rattle.server_loops.proofs.sessions.serve_turns.Given as goal

abbrev pub invariant-loop-turn : goal.invariant-loop-turn
invariant-loop-turn g l = record {
  serving : IsServing l.peer l.holder l._turn (g.D.Desk.desked l.initial.desk) (g.D.Desk.desked l.desk) (sides (g.L.Wire.reading l.initial.link) (g.L.Wire.writing l.initial.link)) (sides (g.L.Wire.reading l.link) (g.L.Wire.writing l.link));
  room : length l.buffer ≡ length l.initial.buffer;
  stays : Stays g.D.Sited.is_at l.initial.desk l.desk;
}
