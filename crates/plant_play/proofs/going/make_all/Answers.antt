use Rattle.plant_network.specs.Topologies.{whole}
use Rattle.plant_play.specs.Making.{event_of}
use Rattle.plant_play.proofs.GoingLemmas.{given_nothing, made_due}
use Rattle.plant_play.proofs.going.make_all.Goals as goal

pub loop-preserved : goal.loop-preserved
loop-preserved c =
    made_due c.args.line c.args.modes c.args.until (whole c.args.plant.now) (whole c.loop.plant) (whole c.make_due.new.plant) (event_of c.in-Some.due) c.args.into.now c.loop.into c.make_due.new.into c.loop.counter
    c.in_ok-make_due.field-0 c.loop.invariant c.in-Some.ensures.due c.in-Some.ensures.possible (given_nothing c.in-Some.due) c.in_ok-make_due.ensures.makes
