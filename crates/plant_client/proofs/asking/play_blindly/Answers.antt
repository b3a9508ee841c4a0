use Rattle.plant_play.specs.Playing.{played_network}
use Rattle.plant_client.proofs.AskingLemmas.{one_played}
use Rattle.plant_client.proofs.asking.play_blindly.Goals as goal

pub returns-clause-plays : goal.returns-clause-plays
returns-clause-plays g c =
    one_played (g.S.Store.files c.args.store.now) c.args.event c.in_ok-_answer._answer (played_network c.args.player.now) (played_network c.play_line.new.player) c.in_ok-_answer.ensures.plays
