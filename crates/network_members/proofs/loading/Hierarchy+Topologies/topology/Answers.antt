use Rattle.std.proofs.Common.{Result, Ok, Err, subst}
use Rattle.std.specs.Prelude.{IfOk}
use Rattle.std.specs.Arc.{arc_value}
use Rattle.std.specs.Option.{option_map}
use Rattle.pce_element.specs.Rows.{pin_with}
use Rattle.network_members.specs.Current.{IsCurrent}
use Rattle.network_members.specs.TierFields.{tiers_of}
use Rattle.network_members.specs.Tiers.{Tiers, members_of}
use Rattle.network_members.proofs.CurrentLemmas.{current_is}
use Rattle.pce_common.specs.plant_model.Plant.{Pin, Segment, first_pin}
use Rattle.network_members.proofs.loading.Hierarchy+Topologies.topology.Goals as goal

if_ok : {T E : Type 0} {P Q : T → Type 0} (r : Result T E) → ((x : T) → P x → Q x) → IfOk r P → IfOk r Q
if_ok (Ok x) f h = f x h
if_ok (Err e) f h = tt

pub returns : goal.returns
returns c =
    subst (λ (t : Tiers Pin Segment). IfOk c.topology.result (λ found. IsCurrent t.network (members_of first_pin t).current c.args.at (option_map (λ p. pin_with p.0 (arc_value p.1)) found))) c.self.view_is
    (if_ok c.topology.result (λ found h. current_is (tiers_of c.self.inside.network c.self.inside.clock.0 c.self.inside.elements c.self.inside.parent) c.args.at (option_map (λ p. pin_with p.0 (arc_value p.1)) found) c.self.invariant.domains h) c.topology.ensures)
