-- The elements of a network and the parent above them, and what the model has of them.
use Rattle.std.specs.Prelude.{◌≡◌, ℕ, false, cond, List, [], ◌∷◌, map, Option, Some, None, Result, Ok, Err, IfOk}
use Rattle.pce_common.specs.plant_model.Types.{As, NoMemory, Peer, Message, Hop, NetworkParts}
use Rattle.plant_text.specs.Names.{same_as, parent_as}
use Rattle.plant_text.specs.Settings.{elements_of}
use Rattle.pce_common.specs.plant_model.declared.output.Lost.{Lost}
use Rattle.pce_common.specs.plant_model.declared.output.Output.{Output}
use Rattle.pce_common.specs.plant_model.Settings.{place, family}
use Rattle.pce_common.specs.plant_model.RealWire.{wire}
use Rattle.pce_common.specs.Membership.{Membership, Standing, given, with_element, with_parent}
use Rattle.pce_element.specs.Plans.{Planned}
use Rattle.pce_element.specs.Seen.{Seen}
use Rattle.pce_parent.specs.Seen as above
use Rattle.network_members.specs.Elements.{at_domain, elements_in, current_in, own_of}
use Rattle.network_members.specs.declared.plan.MemberPlan.{MemberPlan}
use Rattle.network_members.specs.declared.plan.MemberPlan.TheVariants.{Element, Parent}

-- the settings, the moment, the elements in the order of their domains, and the parent
pub record Tiers (P : Type 0) (S : Type 0) : Type 0 where
  pub network : NetworkParts
  pub clock : ℕ
  pub elements : List (Seen P S)
  pub parent : above.Seen

module _ {P : Type 0} {S : Type 0} where
  -- each element has the settings of its domain
  abbrev pub ArePlaced : NetworkParts → List (Seen P S) → Type 0
  ArePlaced n [] = Unit {0}
  ArePlaced n (e ∷ es) = (e.place ≡ place n (own_of e)) × ArePlaced n es

  -- they are those of the settings
  pub record AreSet (t : Tiers P S) : Type 0 where
    pub domains : map own_of t.elements ≡ elements_of t.network.elements
    pub places : ArePlaced t.network t.elements
    pub is_family : t.parent.family ≡ family t.network

  -- ---- what the model has of them

  abbrev pub members_of : (As → P) → Tiers P S → Membership P S
  members_of first t = record { elements = elements_in t.network t.clock t.elements; parent = t.parent.losing.parent; current = current_in first t.elements }

  abbrev pub lost_or : Option (Seen P S) → List Lost
  lost_or None = []
  lost_or (Some e) = e.losing.lost

  -- the requests that were lost at a member and are not yet handed out
  abbrev pub lost_in : Tiers P S → As → List Lost
  lost_in t = λ d. cond (same_as d parent_as) t.parent.losing.lost (lost_or (at_domain d t.elements))

  abbrev pub standing_of : (As → P) → Tiers P S → Standing P S
  standing_of first t = record { network = t.network; seen = members_of first t; lost = lost_in t }

  -- they become these members, with these lost requests
  pub record Become (first : As → P) (old : Tiers P S) (members : Membership P S) (lost : As → List Lost) (new : Tiers P S) : Type 0 where
    pub network : new.network ≡ old.network
    pub seen : members_of first new ≡ members
    pub lost_is : lost_in new ≡ lost

  -- ---- plans

  -- the plan is one of the member as it stands
  abbrev pub FitsIn : {W : Type 0} {D : Type 0} → Tiers P S → MemberPlan W P S D → Type 0
  FitsIn t (Element at plan) = (same_as at parent_as ≡ false) × (at_domain at t.elements ≡ Some plan.from)
  FitsIn t (Parent plan) = plan.from ≡ t.parent

  abbrev pub next_by : {W : Type 0} {D : Type 0} → (As → P) → Tiers P S → MemberPlan W P S D → Membership P S
  next_by first t (Element at plan) = with_element at plan.taken.element (members_of first t)
  next_by first t (Parent plan) = with_parent plan.given.parent (members_of first t)

  abbrev pub sent_by : {W : Type 0} {D : Type 0} → MemberPlan W P S D → List Output
  sent_by (Element at plan) = plan.taken.outputs
  sent_by (Parent plan) = plan.given.outputs

  -- a message is planned: nothing changes, and the plan is what the model does
  pub record Takes {W : Type 0} {D : Type 0} (first : As → P) (show : S → List Hop) (at : As) (peer : Peer) (now : ℕ) (message : Message) (old : Tiers P S) (result : Result (MemberPlan W P S D) NoMemory) (new : Tiers P S) : Type 0 where
    pub same : Become first old (members_of first old) (lost_in old) new
    pub fits : IfOk result (FitsIn new)
    pub next : IfOk result (λ plan. next_by first new plan ≡ (given wire old.network show at peer now message (members_of first old)).members)
    pub sends : IfOk result (λ plan. sent_by plan ≡ (given wire old.network show at peer now message (members_of first old)).outputs)

  -- the plan of an element as that of a member
  abbrev pub planned_below : {W : Type 0} {D : Type 0} → As → Result (Planned P S D) NoMemory → Result (MemberPlan W P S D) NoMemory
  planned_below d (Ok x) = Ok (Element d x)
  planned_below d (Err why) = Err why
