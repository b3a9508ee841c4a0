use Rattle.std.proofs.Common.{subst}
use Rattle.network_links.specs.Happenings.{FeedsIn}
use Rattle.network_links.specs.Carried.{Carried, seen, flow_of}
use Rattle.network_links.specs.Peers.{guests_of}
use Rattle.network_links.specs.TrafficFields.{carried_of}
use Rattle.network_links.proofs.FlowLemmas.{outside_feeds}
use Rattle.network_links.proofs.traffic.Traffic.feed.Goals as goal

pub returns : goal.returns
returns c =
    let new : Carried = record (carried_of c.self.inside) { peers = c.feed.new.self } in
    subst (λ (x : Carried). FeedsIn c.args.peer c.args.piece.now (flow_of x) c.feed.result (flow_of new)) c.self.view_is
    (outside_feeds (seen (carried_of c.self.inside)) c.args.peer (guests_of c.feed.new.self) c.args.piece.now c.feed.result c.feed.ensures)
