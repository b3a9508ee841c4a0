use Rattle.std.proofs.Common.{◌≡◌, ◌∙◌, ap, sym, subst}
use Rattle.plant_model.specs.Types.{Peer, Inner}
use Rattle.network_links.specs.Carried.{Carried, seen, flow_of}
use Rattle.network_links.specs.Quiet.{ticked_at}
use Rattle.network_links.specs.Flow.{change_access}
use Rattle.network_links.specs.Peers.{guests_of}
use Rattle.network_links.specs.QuietSides.{ticked_quietly}
use Rattle.network_links.specs.Sides.{row_of}
use Rattle.network_links.specs.TrafficFields.{carried_of}
use Rattle.network_links.proofs.QuietLemmas.{access_ticks, flow_ticks}
use Rattle.network_links.proofs.traffic.Traffic.tick_quietly.Goals as goal

pub returns-in-Inner-clause-next : goal.returns-in-Inner-clause-next
returns-in-Inner-clause-next c =
    let new : Carried = record (carried_of c.self.inside) { links = c.tick_quietly-in-Inner.new.self } in
    subst (λ (p : Peer). flow_of new ≡ ticked_at c.args.now c.args.at p (flow_of c.args.self.now)) (sym c.in-Inner.is)
    (flow_ticks (seen (carried_of c.self.inside)) c.args.at c.in-Inner.other (row_of c.tick_quietly-in-Inner.new.self) c.args.now c.tick_quietly-in-Inner.ensures.next
    ∙ ap (λ (x : Carried). ticked_at c.args.now c.args.at (Inner c.in-Inner.other) (flow_of x)) c.self.view_is)

pub returns-in-Outside-clause-next : goal.returns-in-Outside-clause-next
returns-in-Outside-clause-next c =
    let new : Carried = record (carried_of c.self.inside) { peers = c.tick_quietly.new.self } in
    subst (λ (p : Peer). flow_of new ≡ ticked_at c.args.now c.args.at p (flow_of c.args.self.now)) (sym c.in-Outside.is)
    (access_ticks (seen (carried_of c.self.inside)) c.in-Outside.peer (guests_of c.tick_quietly.new.self) c.args.now c.tick_quietly.result c.tick_quietly.ensures
    ∙ ap (λ (x : Carried). change_access c.in-Outside.peer (ticked_quietly c.args.now) (flow_of x)) c.self.view_is)
