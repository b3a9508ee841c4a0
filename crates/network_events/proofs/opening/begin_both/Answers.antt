use Rattle.pce_common.specs.plant_model.RealWire.{wire}
use Rattle.pce_common.specs.plant_model.Deeds as deeds
use Rattle.network_links.specs.Carried.{flow_of}
use Rattle.network_events.specs.Standing.{here}
use Rattle.network_events.proofs.GoLaws.{goes_then}
use Rattle.network_events.proofs.opening.begin_both.Goals as goal

pub returns : goal.returns
returns g c =
    let at = here (g.M.Members.stands c.args.members.now) in
    goes_then
    (λ n. deeds.begin_end g.M.Members.Pin g.M.Members.Key wire n g.M.Members.show 0 c.args.lower c.args.upper)
    (λ n. deeds.begin_end g.M.Members.Pin g.M.Members.Key wire n g.M.Members.show 0 c.args.upper c.args.lower)
    (at (flow_of c.args.traffic.now)) (at (flow_of c.begin_one.new.traffic)) (at (flow_of c.begin_one-2.new.traffic))
    c.in_ok-begin_one.ensures c.in_ok-begin_one-2.ensures
