use Rattle.std.proofs.Common.{subst}
use Rattle.std.specs.Prelude.{IfOk}
use Rattle.std.specs.Arc.{arc_value}
use Rattle.std.specs.Option.{option_map}
use Rattle.network_members.specs.pce_element.Rows.{pin_with}
use Rattle.plant_network.specs.Current.{IsCurrent}
use Rattle.plant_network.specs.Topologies.{Held, whole}
use Rattle.plant_network.proofs.topologies.Network+Topologies.topology.Goals as goal

pub returns : goal.returns
returns c =
    subst (λ (h : Held). IfOk c.topology.result (λ found. IsCurrent (whole h) c.args.at (option_map (λ p. pin_with p.0 (arc_value p.1)) found))) c.self.view_is c.topology.ensures
