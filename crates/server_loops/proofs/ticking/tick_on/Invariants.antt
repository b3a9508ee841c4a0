use Rattle.std.proofs.Common.{◌≡◌}
use Rattle.dom_edge.specs.Causes.{counted_on}
use Rattle.server_loops.specs.Sites.{Stays}
use Rattle.server_loops.proofs.Telling.{IsTelling}
use Rattle.server_loops.proofs.ticking.tick_on.Given as goal

abbrev pub invariant-loop-turn : goal.invariant-loop-turn
invariant-loop-turn g l = record {
  telling : IsTelling l.turn l.told (g.D.Desk.desked l.initial.desk) (g.D.Desk.desked l.desk) (g.C.Clock.last l.initial.clock) (g.C.Clock.last l.clock);
  counted : g.C.Clock.readings l.clock ≡ counted_on l.turn (g.C.Clock.readings l.initial.clock);
  stays : Stays g.D.Sited.is_at l.initial.desk l.desk;
}
