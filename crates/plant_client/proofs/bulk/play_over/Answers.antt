use Rattle.std.proofs.Common.{Some, ap}
use Rattle.dom_edge.specs.Memory.{StoreState}
use Rattle.dom_edge.specs.Stores.{file_named}
use Rattle.plant_play.specs.Playing.{played_network}
use Rattle.plant_client.proofs.BulkLemmas.{tallied_of}
use Rattle.plant_client.proofs.bulk.play_over.Goals as goal

pub returns : goal.returns
returns c =
    tallied_of c.args.files c.new-store.result.files (Some (file_named c.begun.new.store.files)) c.args.demand c.args.count (played_network c.in_ok-player.player) (played_network c.ask_all.new.player)
    c.ask_all.result c.requires.files (ap (λ (s : StoreState). s.files) c.new-store.ensures) c.in_ok-player.ensures.files c.in_ok-player.ensures.begins c.ask_all.ensures.tallied
