use Rattle.plant_play.specs.Playing.{played_network}
use Rattle.plant_client.proofs.AskingLemmas.{session_played}
use Rattle.plant_client.proofs.asking.open_session.Goals as goal

pub returns-clause-opens : goal.returns-clause-opens
returns-clause-opens g c =
    session_played (g.S.Store.files c.args.store.now) (g.S.Store.files c.play_alone.new.store) (g.S.Store.files c.play_alone-2.new.store) c.args.client c.in_ok-opening.opening
    (played_network c.args.player.now) (played_network c.play_alone.new.player) (played_network c.play_alone-2.new.player) (played_network c.play_alone-3.new.player) c.play_alone-3.result
    c.in_ok-opening.ensures c.play_alone.ensures.files c.play_alone-2.ensures.files c.in_ok-play_alone.ensures.plays c.in_ok-play_alone-2.ensures.plays c.play_alone-3.ensures.plays
