use Rattle.plant_network.specs.Topologies.{whole}
use Rattle.plant_play.proofs.GoingLemmas.{one_take, take_falls}
use Rattle.plant_play.proofs.feeding.take_all.Goals as goal

pub loop-taken-smaller : goal.loop-taken-smaller
loop-taken-smaller c =
    take_falls c.args.line c.args.modes c.args.peer (whole c.loop-taken.plant) (whole c.make_due.new.plant) c.loop-taken.into c.make_due.new.into c.loop-taken.taken c.in_ok-taken.taken c.loop-taken-test.true c.in_ok-taken.ensures.makes

pub loop-taken-preserved : goal.loop-taken-preserved
loop-taken-preserved c =
    one_take c.args.line c.args.modes c.args.peer (whole c.args.plant.now) (whole c.loop-taken.plant) (whole c.make_due.new.plant) c.args.into.now c.loop-taken.into c.make_due.new.into c.in_ok-taken.taken
    c.loop-taken.invariant.0 c.in_ok-taken.ensures.makes
