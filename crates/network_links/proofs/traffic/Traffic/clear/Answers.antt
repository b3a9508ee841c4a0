use Rattle.std.proofs.Common.{subst}
use Rattle.network_links.specs.Carried.{Carried, seen, flow_of}
use Rattle.network_links.specs.Flow.{Clears}
use Rattle.network_links.specs.Sides.{row_of}
use Rattle.network_links.specs.TrafficFields.{carried_of}
use Rattle.network_links.proofs.FlowLemmas.{both_clear}
use Rattle.network_links.proofs.traffic.Traffic.clear.Goals as goal

pub returns : goal.returns
returns c =
    let new : Carried = record (carried_of c.self.inside) { links = c.clear.new.self } in
    subst (λ (x : Carried). Clears c.args.a c.args.b (flow_of x) (flow_of new)) c.self.view_is
    (both_clear (seen (carried_of c.self.inside)) c.args.a c.args.b (row_of c.clear.new.self) c.clear.ensures)
