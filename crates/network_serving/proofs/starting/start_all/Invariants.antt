use Rattle.std.proofs.Common.{◌≡◌, ◌≤◌, ◌++◌, length, map, All}
use Rattle.std.specs.Vec.Iter.{into_iter_items, into_iter_len}
use Rattle.network_serving.specs.Spawners.{bases, faults_of, started}
use Rattle.network_serving.specs.Bases.{base_in}
use Rattle.network_serving.specs.Tasks.{IsNew, duty_of}
use Rattle.network_serving.proofs.starting.start_all.Given as goal

abbrev pub invariant-loop-task : goal.invariant-loop-task
invariant-loop-task g l = record {
  whole : l.yielded ++ into_iter_items l.task-iterator ≡ l.fn.tasks.items;
  left : into_iter_len l.task-iterator ≡ length (into_iter_items l.task-iterator);
  new : All (IsNew g.K.Listener.heeds g.K.Listener.dialled_to) l.fn.tasks.items;
  started : started l.spawner ≡ started l.initial.spawner ++ map (duty_of g.K.Listener.opened_at) l.yielded;
  behind : bases l.spawner ≡ bases l.initial.spawner ++ map base_in l.yielded;
  later : faults_of l.initial.spawner ≤ faults_of l.spawner;
}
