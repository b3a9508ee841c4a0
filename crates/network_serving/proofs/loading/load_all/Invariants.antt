use Rattle.std.proofs.Common.{◌≡◌, ◌≤◌, take}
use Rattle.plant_network.specs.Topologies.{whole}
use Rattle.server_loops.specs.Operating.{AreOfElements}
use Rattle.ted_watch.specs.Watch.{list_of, published}
use Rattle.turn_desk.specs.Histories.{NoneIsPending}
use Rattle.network_serving.specs.Loaded.{IsLoaded}
use Rattle.network_serving.proofs.loading.load_all.Given as goal

abbrev pub invariant-loop-i : goal.invariant-loop-i
invariant-loop-i g l = record {
  loaded : IsLoaded (g.T.Store.files l.initial.store) l.network (take l.i l.rows) (published l.publisher) (whole l.plant);
  none : NoneIsPending (whole l.plant).state;
  elements : AreOfElements l.network (published l.publisher);
  list : list_of l.publisher ≡ list_of l.initial.publisher;
  files : g.T.Store.files l.store ≡ g.T.Store.files l.initial.store;
  later : g.T.Store.faults l.initial.store ≤ g.T.Store.faults l.store;
}
