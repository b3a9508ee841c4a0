use Rattle.std.proofs.Common.{◌≡◌, ◌+◌}
use Rattle.turn_desk.specs.Desks.{shares_at, stand_of}
use Rattle.network_serving.specs.Duties.{work_duties}
use Rattle.network_serving.specs.Starting.{Adds}
use Rattle.network_serving.proofs.planning.add_workers.Given as goal

abbrev pub invariant-loop-index : goal.invariant-loop-index
invariant-loop-index g l = record {
  stand : stand_of l.desk ≡ stand_of l.initial.desk;
  seats : shares_at l.desk + l.index ≡ shares_at l.initial.desk;
  adds : Adds g.K.Listener.opened_at g.K.Listener.heeds g.K.Listener.dialled_to (stand_of l.initial.desk) l.initial.tasks.items l.tasks.items (work_duties 0 l.index);
}
