use Rattle.std.proofs.Common.{subst}
use Rattle.plant_network.specs.Blind.{Held, whole}
use Rattle.blind_play.specs.Playing.{Played, cue, played_network}
use Rattle.blind_play.proofs.LineLemmas.{played}
use Rattle.blind_play.proofs.player.BlindPlayer.play.Goals as goal

pub returns : goal.returns
returns c =
    let told = c.play_line.new.into.items in
    subst (λ (x : Held). Played (cue c.args.line c.args.event) (played_network x) told (played_network c.play_line.new.plant)) c.self.view_is
    (played c.args.line c.args.event (whole c.self.inside.plant) (whole c.play_line.new.plant) c.new-text.result.items told c.new-text.ensures.items c.in_ok-play_line.ensures)
