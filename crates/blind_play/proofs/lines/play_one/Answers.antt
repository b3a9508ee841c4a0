use Rattle.plant_network.specs.Blind.{whole}
use Rattle.blind_play.proofs.LineLemmas.{one_played}
use Rattle.blind_play.proofs.lines.play_one.Goals as goal

pub returns : goal.returns
returns c = one_played c.args.line (whole c.args.plant.now) (whole c.play_event.new.plant) c.args.event c.in_ok-_accepted._accepted c.args.into.now.items c.play_event.new.into.items c.in_ok-_accepted.ensures
