use Rattle.std.proofs.Common.{◌≡◌, ◌≤◌, map, take}
use Rattle.plant_play.specs.Playing.{played_network}
use Rattle.plant_client.specs.Asking.{ArePlayed, load_line}
use Rattle.plant_client.proofs.asking.load_all.Given as goal

abbrev pub invariant-loop-topology : goal.invariant-loop-topology
invariant-loop-topology g l = record {
  files : g.S.Store.files l.store ≡ g.S.Store.files l.initial.store;
  later : g.S.Store.faults l.initial.store ≤ g.S.Store.faults l.store;
  played : ArePlayed (g.S.Store.files l.initial.store) (map load_line (take l.topology-index l.topologies)) (played_network l.initial.player) (played_network l.player);
}
