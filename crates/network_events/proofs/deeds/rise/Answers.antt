use Rattle.std.proofs.Common.{subst, sym}
use Rattle.pce_common.specs.plant_model.RealWire.{wire}
use Rattle.pce_common.specs.plant_model.Deeds as deeds
use Rattle.network_links.specs.Carried.{flow_of}
use Rattle.pce_common.specs.Membership.{Standing}
use Rattle.network_events.specs.Standing.{Goes, here}
use Rattle.network_events.proofs.GoLaws.{goes_rise}
use Rattle.network_events.proofs.deeds.rise.Goals as goal

pub returns : goal.returns
returns g c =
    let m = g.M.Members in
    let s = m.stands c.args.members.now in
    let f = flow_of c.args.traffic.now in
    subst (λ (x : Standing _ _). Goes (λ n. deeds.rise m.Pin m.Key wire n m.show c.args.at c.args.peer) (here s f) (here x f)) (sym c.up.ensures) (goes_rise m.show s.network s.seen s.lost c.args.at c.args.peer f)
