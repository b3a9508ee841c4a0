use Rattle.std.proofs.Common.{◌≡◌, [], subst}
use Rattle.plant_model.specs.Deeds.{with_inbox}
use Rattle.network_links.specs.Flow.{change_access}
use Rattle.network_links.specs.Carried.{Carried, seen, flow_of}
use Rattle.network_links.specs.Peers.{guests_of}
use Rattle.network_links.specs.TrafficFields.{carried_of}
use Rattle.network_links.proofs.FlowLemmas.{access_changes}
use Rattle.network_links.proofs.traffic.Traffic.empty_inbox.Goals as goal

pub returns : goal.returns
returns c =
    let new : Carried = record (carried_of c.self.inside) { peers = c.empty_inbox.new.self } in
    subst (λ (x : Carried). flow_of new ≡ change_access c.args.peer (with_inbox []) (flow_of x)) c.self.view_is
    (access_changes (seen (carried_of c.self.inside)) c.args.peer (guests_of c.empty_inbox.new.self) (with_inbox []) c.empty_inbox.ensures)
