use Rattle.plant_network.specs.Blind.{whole}
use Rattle.blind_play.proofs.TurnLemmas.{one_take, take_falls}
use Rattle.blind_play.proofs.feeding.take_all.Goals as goal

pub loop-taken-smaller : goal.loop-taken-smaller
loop-taken-smaller c =
    take_falls c.args.line c.args.peer (whole c.args.plant.now) (whole c.loop-taken.plant) (whole c.play_event.new.plant) c.args.into.now.items c.loop-taken.into.items c.play_event.new.into.items
    c.loop-taken.taken c.in_ok-taken.taken c.loop-taken-test.true c.in_ok-taken.ensures

pub loop-taken-preserved : goal.loop-taken-preserved
loop-taken-preserved c =
    one_take c.args.line c.args.peer (whole c.args.plant.now) (whole c.loop-taken.plant) (whole c.play_event.new.plant) c.args.into.now.items c.loop-taken.into.items c.play_event.new.into.items
    c.in_ok-taken.taken c.loop-taken.invariant.0 c.in_ok-taken.ensures
