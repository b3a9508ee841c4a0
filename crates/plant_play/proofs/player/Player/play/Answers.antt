use Rattle.std.proofs.Common.{subst}
use Rattle.plant_network.specs.Topologies.{whole}
use Rattle.plant_play.specs.Making.{playing}
use Rattle.plant_play.specs.Playing.{Played, Scene, cue, played_network}
use Rattle.plant_play.proofs.LineLemmas.{played}
use Rattle.plant_play.proofs.player.Player.play.Goals as goal

pub returns-clause-plays : goal.returns-clause-plays
returns-clause-plays c =
    let b0 = c.args.log in
    let b1 = c.play_line.new.into in
    let old = whole c.self.inside.plant in
    let new = whole c.play_line.new.plant in
    let after = c.modes_after-after.result in
    let answer = c.in_ok-answer.answer in
    subst (λ (x : Scene). Played (cue c.args.line c.args.event c.args.file.now) (played_network x) answer (playing after new) b0 b1) c.self.view_is
    (played c.args.line c.args.event c.args.file.now c.self.inside.modes after old answer new b0 b1 c.modes_after-after.ensures c.in_ok-answer.ensures.plays)
