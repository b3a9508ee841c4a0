use Rattle.std.proofs.Common.{◌≡◌, ◌+◌, ◌≤◌, take}
use Rattle.turn_desk.specs.Desks.{shares_at, stand_of}
use Rattle.network_serving.specs.Duties.{port_duties}
use Rattle.network_serving.specs.Ends.{RoseBy}
use Rattle.network_serving.specs.Starting.{Adds}
use Rattle.network_serving.proofs.planning.add_ports.Given as goal

abbrev pub invariant-loop-peer : goal.invariant-loop-peer
invariant-loop-peer g l = record {
  stand : stand_of l.desk ≡ stand_of l.initial.desk;
  seats : shares_at l.desk + l.peer ≡ shares_at l.initial.desk;
  adds : Adds g.Q.Port.Listener.opened_at g.Q.Port.Listener.heeds g.Q.Port.Listener.dialled_to (stand_of l.initial.desk) l.initial.tasks.items l.tasks.items (port_duties 0 (take l.peer l.peers));
  calls : RoseBy l.peer (g.Q.Ports.calls l.initial.ports, g.Q.Ports.calls l.ports);
  later : g.Q.Ports.faults l.initial.ports ≤ g.Q.Ports.faults l.ports;
}
