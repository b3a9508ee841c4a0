use Rattle.std.proofs.Common.{◌≡◌, sym, subst}
use Rattle.plant_model.specs.Types.{Peer}
use Rattle.network_links.specs.Carried.{Carried, seen, flow_of}
use Rattle.network_links.specs.Flow.{DropsFirst, DropsFirstAt, change_access, drop_first}
use Rattle.network_links.specs.Peers.{guests_of}
use Rattle.network_links.specs.Sides.{row_of}
use Rattle.network_links.specs.TrafficFields.{carried_of}
use Rattle.network_links.proofs.FlowLemmas.{access_changes, first_drops}
use Rattle.network_links.proofs.traffic.Traffic.drop_first.Goals as goal

pub returns-in-Inner : goal.returns-in-Inner
returns-in-Inner c =
    let new : Carried = record (carried_of c.self.inside) { links = c.drop_first-in-Inner.new.self } in
    subst (λ (p : Peer). DropsFirstAt c.args.at p (flow_of c.args.self.now) (flow_of new)) (sym c.in-Inner.is)
    (subst (λ (x : Carried). DropsFirst c.in-Inner.other c.args.at (flow_of x) (flow_of new)) c.self.view_is
    (first_drops (seen (carried_of c.self.inside)) c.in-Inner.other c.args.at (row_of c.drop_first-in-Inner.new.self) c.drop_first-in-Inner.ensures))

pub returns-in-Outside : goal.returns-in-Outside
returns-in-Outside c =
    let new : Carried = record (carried_of c.self.inside) { peers = c.drop_first.new.self } in
    subst (λ (p : Peer). DropsFirstAt c.args.at p (flow_of c.args.self.now) (flow_of new)) (sym c.in-Outside.is)
    (subst (λ (x : Carried). flow_of new ≡ change_access c.in-Outside.peer drop_first (flow_of x)) c.self.view_is
    (access_changes (seen (carried_of c.self.inside)) c.in-Outside.peer (guests_of c.drop_first.new.self) drop_first c.drop_first.ensures))
