use Rattle.plant_network.specs.Topologies.{whole}
use Rattle.plant_play.proofs.GoingLemmas.{can_solve}
use Rattle.plant_play.proofs.going.job_due.Goals as goal

pub returns-in-Some-clause-possible : goal.returns-in-Some-clause-possible
returns-in-Some-clause-possible c = can_solve (whole c.args.plant.now) c.in-Some.at c.in-Some.number c.in-Some.ensures.can
