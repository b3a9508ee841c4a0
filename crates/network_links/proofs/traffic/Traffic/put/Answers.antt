use Rattle.std.proofs.Common.{◌≡◌, ◌++◌, ◌∷◌, [], sym, subst}
use Rattle.plant_model.specs.Types.{Peer, Inner, Outside}
use Rattle.plant_queues.specs.Sents.{sent_of}
use Rattle.network_links.specs.Carried.{Carried, seen, flow_of}
use Rattle.network_links.specs.Flow.{Puts}
use Rattle.network_links.specs.Peers.{guests_of}
use Rattle.network_links.specs.Sides.{row_of}
use Rattle.network_links.specs.TrafficFields.{carried_of}
use Rattle.network_links.proofs.FlowLemmas.{inner_puts, outside_puts}
use Rattle.network_links.proofs.traffic.Traffic.put.Goals as goal

pub returns-in-Outside : goal.returns-in-Outside
returns-in-Outside c =
    let m = c.args.message.now in
    let was = c.self.inside.said in
    let now = c.put.new.self in
    let to = Outside c.in-Outside.peer in
    let new : Carried = record (carried_of c.self.inside) { peers = c.put-in-Outside.new.self; said = now } in
    subst (λ (p : Peer). Puts c.args.at p m (flow_of c.args.self.now) (flow_of new)) (sym c.in-Outside.is)
    (subst (λ (x : Carried). Puts c.args.at to m (flow_of x) (flow_of new)) c.self.view_is
    (outside_puts (seen (carried_of c.self.inside)) c.in-Outside.peer (guests_of c.put-in-Outside.new.self) c.args.at now m
    (subst (λ (p : Peer). now.kept ≡ was.kept ++ sent_of c.args.at p m ∷ []) c.in-Outside.is c.put.ensures.kept)
    (record { messages = c.put.ensures.messages; bytes = c.put.ensures.bytes }) c.put-in-Outside.ensures))

pub returns-in-Inner : goal.returns-in-Inner
returns-in-Inner c =
    let m = c.args.message.now in
    let was = c.self.inside.said in
    let now = c.put.new.self in
    let to = Inner c.in-Inner.other in
    let new : Carried = record (carried_of c.self.inside) { links = c.put-in-Inner.new.self; said = now } in
    subst (λ (p : Peer). Puts c.args.at p m (flow_of c.args.self.now) (flow_of new)) (sym c.in-Inner.is)
    (subst (λ (x : Carried). Puts c.args.at to m (flow_of x) (flow_of new)) c.self.view_is
    (inner_puts (seen (carried_of c.self.inside)) c.args.at c.in-Inner.other (row_of c.put-in-Inner.new.self) now m
    (subst (λ (p : Peer). now.kept ≡ was.kept ++ sent_of c.args.at p m ∷ []) c.in-Inner.is c.put.ensures.kept)
    (record { messages = c.put.ensures.messages; bytes = c.put.ensures.bytes }) c.put-in-Inner.ensures))
