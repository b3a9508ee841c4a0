use Rattle.std.proofs.Common.{◌≡◌}
use Rattle.server_loops.specs.Serving.{heard}
use Rattle.ted_watch.specs.Watch.{known, list_at}
use Rattle.network_serving.specs.Watching.{WatchesPort}
use Rattle.network_serving.proofs.watching.watch_port.Given as goal

abbrev pub invariant-loop-turn : goal.invariant-loop-turn
invariant-loop-turn g l = record {
  watches : WatchesPort l._turn (known l.initial.watcher) (known l.watcher) (heard (g.K.Listener.faults l.initial.listener) (g.K.Listener.quiets l.initial.listener) (g.K.Listener.handed l.initial.listener)) (heard (g.K.Listener.faults l.listener) (g.K.Listener.quiets l.listener) (g.K.Listener.handed l.listener));
  list : list_at l.watcher ≡ list_at l.initial.watcher;
  port : g.K.Listener.opened_at l.listener ≡ g.K.Listener.opened_at l.initial.listener;
  heeds : g.K.Listener.heeds l.listener ≡ g.K.Listener.heeds l.initial.listener;
  dials : g.K.Listener.dialled_to l.listener ≡ g.K.Listener.dialled_to l.initial.listener;
}
