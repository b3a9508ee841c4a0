use Rattle.std.proofs.Common.{◌≡◌, ◌∙◌, ap, sym, subst}
use Rattle.plant_model.specs.Types.{Peer}
use Rattle.plant_model.specs.Deeds.{with_session}
use Rattle.network_links.specs.Carried.{Carried, seen, flow_of}
use Rattle.network_links.specs.Flow.{change_access, set_session, set_session_at}
use Rattle.network_links.specs.Peers.{guests_of}
use Rattle.network_links.specs.Sides.{row_of}
use Rattle.network_links.specs.TrafficFields.{carried_of}
use Rattle.network_links.proofs.FlowLemmas.{access_changes, session_changes}
use Rattle.network_links.proofs.traffic.Traffic.set_session.Goals as goal

pub returns-in-Inner : goal.returns-in-Inner
returns-in-Inner c =
    let new : Carried = record (carried_of c.self.inside) { links = c.set_session-in-Inner.new.self } in
    subst (λ (p : Peer). flow_of new ≡ set_session_at c.args.at p c.args.session (flow_of c.args.self.now)) (sym c.in-Inner.is)
    (session_changes (seen (carried_of c.self.inside)) c.args.at c.in-Inner.other (row_of c.set_session-in-Inner.new.self) c.args.session c.set_session-in-Inner.ensures
    ∙ ap (λ (x : Carried). set_session c.args.at c.in-Inner.other c.args.session (flow_of x)) c.self.view_is)

pub returns-in-Outside : goal.returns-in-Outside
returns-in-Outside c =
    let new : Carried = record (carried_of c.self.inside) { peers = c.set_session.new.self } in
    subst (λ (p : Peer). flow_of new ≡ set_session_at c.args.at p c.args.session (flow_of c.args.self.now)) (sym c.in-Outside.is)
    (access_changes (seen (carried_of c.self.inside)) c.in-Outside.peer (guests_of c.set_session.new.self) (with_session c.args.session) c.set_session.ensures
    ∙ ap (λ (x : Carried). change_access c.in-Outside.peer (with_session c.args.session) (flow_of x)) c.self.view_is)
