-- The elements of a network with topologies and the parent above them: the same definitions, for that world.
use Rattle.std.specs.Prelude.{List}
use Rattle.pce_common.specs.plant_model.Types.{As, NetworkParts}
use Rattle.disclosure.specs.Shown.{open_of}
use Rattle.border_costs.specs.Solutions.{Solution}
use Rattle.pce_common.specs.plant_model.declared.output.Lost.{Lost}
use Rattle.pce_common.specs.plant_model.Plant.{Pin, Segment, first_pin}
use Rattle.pce_common.specs.Membership.{Membership, Standing}
use Rattle.pce_element.specs.declared.topologies.Topologies.{Topologies}
use Rattle.pce_element.specs.Seen as element
use Rattle.network_members.specs.Fresh as fresh
use Rattle.network_members.specs.Tiers as tiers
use Rattle.network_members.specs.declared.plan.MemberPlan as plan

abbrev pub Seen : Type 0
Seen = element.Seen Pin Segment

abbrev pub Tiers : Type 0
Tiers = tiers.Tiers Pin Segment

abbrev pub MemberPlan : Type 0
MemberPlan = plan.MemberPlan Topologies Pin Segment Solution

abbrev pub members_of : Tiers → Membership Pin Segment
members_of t = tiers.members_of first_pin t

abbrev pub standing_of : Tiers → Standing Pin Segment
standing_of t = tiers.standing_of first_pin t

abbrev pub next_by : Tiers → MemberPlan → Membership Pin Segment
next_by t p = tiers.next_by first_pin t p

abbrev pub Become : Tiers → Membership Pin Segment → (As → List Lost) → Tiers → Type 0
Become old members lost new = tiers.Become first_pin old members lost new

abbrev pub begun : NetworkParts → Membership Pin Segment
begun n = fresh.begun first_pin open_of n
