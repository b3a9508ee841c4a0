use Rattle.std.proofs.Common.{subst}
use Rattle.network_links.specs.Happenings.{DrainsIn}
use Rattle.network_links.specs.Carried.{Carried, seen, flow_of}
use Rattle.network_links.specs.Peers.{guests_of}
use Rattle.network_links.specs.TrafficFields.{carried_of}
use Rattle.network_links.proofs.FlowLemmas.{outside_drains}
use Rattle.network_links.proofs.traffic.Traffic.drain.Goals as goal

pub returns : goal.returns
returns c =
    let new : Carried = record (carried_of c.self.inside) { peers = c.drain.new.self } in
    subst (λ (x : Carried). DrainsIn c.args.peer c.args.holder (flow_of x) c.drain.result (flow_of new)) c.self.view_is
    (outside_drains (seen (carried_of c.self.inside)) c.args.peer (guests_of c.drain.new.self) c.args.holder c.drain.result c.drain.ensures)
