use Rattle.std.proofs.Common.{refl}
use Rattle.plant_network.specs.plant_model.Types.{As}
use Rattle.plant_network.specs.Topologies.{whole}
use Rattle.plant_network.specs.network_links.Carried.{flow_of}
use Rattle.plant_network.proofs.CarryLemmas.{least_here, settled_here}
use Rattle.plant_play.proofs.GoingLemmas.{can_carry, due_of}
use Rattle.plant_play.proofs.going.next_due.Goals as goal

pub returns-in-None-clause-due : goal.returns-in-None-clause-due
returns-in-None-clause-due c =
    let h = c.args.plant.now in
    let w = whole h in
    due_of c.args.until w.network w.state _ (settled_here w.network (flow_of h.carried) w.state refl c.in-None.ensures.next c.in-None.ensures.along) c.job_due.ensures.first

pub returns-in-Some-clause-possible : goal.returns-in-Some-clause-possible
returns-in-Some-clause-possible c =
    let h = c.args.plant.now in
    let w = whole h in
    let way : As × As = (c.in-Some.from, c.in-Some.to) in
    can_carry w c.in-Some.from c.in-Some.to (least_here w.network (flow_of h.carried) w.state way refl c.in-Some.ensures.next c.in-Some.ensures.along)
