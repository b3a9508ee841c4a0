use Rattle.std.proofs.Common.{subst}
use Rattle.network_links.specs.Carried.{Carried, seen, flow_of}
use Rattle.network_links.specs.Flow.{Connects}
use Rattle.network_links.specs.Peers.{guests_of}
use Rattle.network_links.specs.TrafficFields.{carried_of}
use Rattle.network_links.proofs.FlowLemmas.{outside_connects}
use Rattle.network_links.proofs.traffic.Traffic.connect.Goals as goal

pub returns : goal.returns
returns c =
    let new : Carried = record (carried_of c.self.inside) { peers = c.connect.new.self } in
    subst (λ (x : Carried). Connects c.args.peer c.args.holder (flow_of x) c.connect.result (flow_of new)) c.self.view_is
    (outside_connects (seen (carried_of c.self.inside)) c.args.peer (guests_of c.connect.new.self) c.args.holder c.connect.result c.connect.ensures)
