use Rattle.plant_play.specs.Playing.{played_network}
use Rattle.plant_client.proofs.AskingLemmas.{exchange_played}
use Rattle.plant_client.proofs.asking.exchange.Goals as goal

pub returns-clause-exchanges : goal.returns-clause-exchanges
returns-clause-exchanges g c =
    exchange_played (g.S.Store.files c.args.store.now) (g.S.Store.files c.put.new.store) c.args.client c.args.question.now
    (played_network c.args.player.now) (played_network c.put.new.player) (played_network c.receive.new.player) c.receive.result
    c.put.ensures.files c.in_ok-put.ensures.asks c.in_ok-put.ensures.octets c.receive.ensures.receives
