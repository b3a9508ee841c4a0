use Rattle.std.proofs.Common.{◌≡◌, ◌<◌}
use Rattle.ted_watch.specs.Watch.{known, list_at}
use Rattle.ted_watch.specs.Serving.{sides}
use Rattle.ted_watch.proofs.Connections.{IsServed}
use Rattle.ted_watch.proofs.serving.serve_watch.Given as goal

abbrev pub invariant-loop-turn : goal.invariant-loop-turn
invariant-loop-turn g l = record {
  served : IsServed l._turn l.quiets l.line.items (known l.initial.watcher) (known l.watcher) (sides (g.L.Wire.reading l.initial.link) (g.L.Wire.writing l.initial.link)) (sides (g.L.Wire.reading l.link) (g.L.Wire.writing l.link));
  few : l.quiets < 6;
  list : list_at l.watcher ≡ list_at l.initial.watcher;
}
