use Rattle.std.proofs.Common.{◌≡◌}
use Rattle.server_loops.specs.Serving.{heard}
use Rattle.server_loops.specs.Sites.{Stays}
use Rattle.server_loops.proofs.Hosting.{IsHosting}
use Rattle.server_loops.proofs.port.serve_port.Given as goal

abbrev pub invariant-loop-turn : goal.invariant-loop-turn
invariant-loop-turn g l = record {
  hosting : IsHosting l.peer l.holder l._turn (g.D.Desk.desked l.initial.desk) (g.D.Desk.desked l.desk) (heard (g.K.Listener.faults l.initial.listener) (g.K.Listener.quiets l.initial.listener) (g.K.Listener.handed l.initial.listener)) (heard (g.K.Listener.faults l.listener) (g.K.Listener.quiets l.listener) (g.K.Listener.handed l.listener));
  port : g.K.Listener.opened_at l.listener ≡ g.K.Listener.opened_at l.initial.listener;
  heeds : g.K.Listener.heeds l.listener ≡ g.K.Listener.heeds l.initial.listener;
  dials : g.K.Listener.dialled_to l.listener ≡ g.K.Listener.dialled_to l.initial.listener;
  stays : Stays g.D.Sited.is_at l.initial.desk l.desk;
}
