use Rattle.std.proofs.Common.{◌≡◌, ◌+◌, ◌≤◌, length, All}
use Rattle.ted_watch.specs.Watch.{carried, list_told}
use Rattle.network_serving.specs.Duties.{watches_at}
use Rattle.network_serving.specs.Ends.{RoseBy}
use Rattle.network_serving.specs.Watches.{AreWatches, IsUnused}
use Rattle.network_serving.specs.declared.duties.TheConstants.{WATCHERS}
use Rattle.network_serving.proofs.watches.plan_at.Given as goal

abbrev pub invariant-loop-index : goal.invariant-loop-index
invariant-loop-index g l = record {
  planned : AreWatches g.Q.Port.Listener.opened_at g.Q.Port.Listener.heeds g.Q.Port.Listener.dialled_to (carried l.told) (list_told l.told) (watches_at l.port 0 l.index) l.tasks.items;
  unused : All (IsUnused (list_told l.told)) l.watchers.items;
  left : length l.watchers.items + l.index ≡ WATCHERS;
  calls : RoseBy l.index (g.Q.Ports.calls l.initial.ports, g.Q.Ports.calls l.ports);
  later : g.Q.Ports.faults l.initial.ports ≤ g.Q.Ports.faults l.ports;
}
