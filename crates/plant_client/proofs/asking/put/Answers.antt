use Rattle.plant_play.specs.Playing.{played_network}
use Rattle.plant_client.proofs.AskingLemmas.{asking_played}
use Rattle.plant_client.proofs.asking.put.Goals as goal

pub returns-clause-asks : goal.returns-clause-asks
returns-clause-asks g c =
    asking_played (g.S.Store.files c.args.store.now) (g.S.Store.files c.play_alone.new.store) c.args.client c.args.question.now c.in_ok-asked.asked
    (played_network c.args.player.now) (played_network c.play_alone.new.player) (played_network c.play_alone-2.new.player) c.play_alone-2.result
    c.in_ok-asked.ensures.text c.play_alone.ensures.files c.in_ok-play_alone.ensures.plays c.play_alone-2.ensures.plays
