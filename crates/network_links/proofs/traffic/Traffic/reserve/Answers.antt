use Rattle.std.proofs.Common.{sym, subst}
use Rattle.plant_model.specs.Types.{Peer, Inner, Outside}
use Rattle.network_links.specs.Carried.{Carried, seen, flow_of}
use Rattle.network_links.specs.Flow.{GrowsAt}
use Rattle.network_links.specs.Peers.{guests_of}
use Rattle.network_links.specs.Sides.{row_of}
use Rattle.network_links.specs.TrafficFields.{carried_of}
use Rattle.network_links.proofs.FlowLemmas.{inner_reserves, outside_grows}
use Rattle.network_links.proofs.traffic.Traffic.reserve.Goals as goal

pub returns-in-Inner-clause-grows : goal.returns-in-Inner-clause-grows
returns-in-Inner-clause-grows c =
    let new : Carried = record (carried_of c.self.inside) { links = c.reserve-in-Inner.new.self } in
    subst (λ (p : Peer). GrowsAt c.args.at p (flow_of c.args.self.now) (flow_of new)) (sym c.in-Inner.is)
    (subst (λ (x : Carried). GrowsAt c.args.at (Inner c.in-Inner.other) (flow_of x) (flow_of new)) c.self.view_is
    (inner_reserves (seen (carried_of c.self.inside)) c.args.at c.in-Inner.other (row_of c.reserve-in-Inner.new.self) c.args.messages c.args.bytes c.reserve-in-Inner.result c.reserve-in-Inner.ensures).0)

pub returns-in-Outside-clause-grows : goal.returns-in-Outside-clause-grows
returns-in-Outside-clause-grows c =
    let new : Carried = record (carried_of c.self.inside) { peers = c.reserve.new.self } in
    subst (λ (p : Peer). GrowsAt c.args.at p (flow_of c.args.self.now) (flow_of new)) (sym c.in-Outside.is)
    (subst (λ (x : Carried). GrowsAt c.args.at (Outside c.in-Outside.peer) (flow_of x) (flow_of new)) c.self.view_is
    (outside_grows (seen (carried_of c.self.inside)) c.in-Outside.peer (guests_of c.reserve.new.self) c.args.at c.args.messages c.args.bytes c.reserve.result c.reserve.ensures))
