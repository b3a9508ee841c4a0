use Rattle.plant_play.specs.Playing.{played_network}
use Rattle.plant_client.proofs.AskingLemmas.{ask_played}
use Rattle.plant_client.proofs.asking.ask.Goals as goal

pub returns-clause-asks : goal.returns-clause-asks
returns-clause-asks g c =
    ask_played (g.S.Store.files c.args.store.now) (g.S.Store.files c.begin.new.store) c.args.network c.args.client c.args.question.now
    (played_network c.in_ok-player.player) (played_network c.exchange.new.player) c.exchange.result c.begin.ensures.files c.in_ok-player.ensures.begins c.exchange.ensures.exchanges
