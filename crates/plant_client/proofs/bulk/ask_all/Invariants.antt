use Rattle.std.proofs.Common.{◌≡◌, ◌+◌, ◌*◌}
use Rattle.plant_play.specs.Playing.{played_network}
use Rattle.network_files.specs.DrawnFiles.{links_draws}
use Rattle.plant_client.specs.Bulk.{AreTallied}
use Rattle.plant_client.specs.Requests.{questions}
use Rattle.plant_client.proofs.bulk.ask_all.Given as goal

abbrev pub invariant-loop-request : goal.invariant-loop-request
invariant-loop-request g l = record {
  files : g.S.Store.files l.store ≡ g.S.Store.files l.initial.store;
  place : l.draws ≡ links_draws + 2 * l.request;
  tallied : AreTallied (g.S.Store.files l.initial.store) (questions l.demand l.request) (played_network l.initial.player) (played_network l.player) l.tally;
}
