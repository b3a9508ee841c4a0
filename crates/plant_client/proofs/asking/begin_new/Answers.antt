use Rattle.plant_play.specs.Playing.{played_network}
use Rattle.plant_client.proofs.AskingLemmas.{begin_played}
use Rattle.plant_client.proofs.asking.begin_new.Goals as goal

pub returns-clause-begins : goal.returns-clause-begins
returns-clause-begins g c =
    begin_played (g.S.Store.files c.args.store.now) (g.S.Store.files c.load_all.new.store) (played_network c.args.player.now).network c.args.client c.args.named.now
    (played_network c.args.player.now) (played_network c.load_all.new.player) (played_network c.open_session.new.player) c.open_session.result
    c.requires.new c.requires.found c.load_all.ensures.files c.in_ok-load_all.ensures.loads c.open_session.ensures.opens
