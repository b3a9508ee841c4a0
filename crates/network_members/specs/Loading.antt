-- The answer and the deeds of an event by which an element loads a topology.
use Rattle.std.specs.Prelude.{◌≡◌, ℕ, List, [], ◌∷◌, Result, Ok, Err}
use Rattle.pce_common.specs.plant_model.Types.{As, NetworkParts}
use Rattle.te_links.specs.Rows.{Rows}
use Rattle.pce_common.specs.plant_model.declared.event.Event.TheVariants as event
use Rattle.pce_common.specs.plant_model.declared.outcome.Outcome.TheVariants.{Loaded}
use Rattle.pce_common.specs.plant_model.declared.outcome.Refused.{Refused}
use Rattle.pce_common.specs.plant_model.Events.{Answered}
use Rattle.pce_common.specs.plant_model.RealWire.{wire}
use Rattle.pce_common.specs.plant_model.State as deeds
use Rattle.pce_common.specs.plant_model.Plant.{Pin, Segment, first_pin, Plant, PlantDeed, Steps}
use Rattle.pce_common.specs.Membership.{Membership}
use Rattle.pce_element.specs.Seen.{Seen}
use Rattle.network_members.specs.Elements.{elements_in, current_in}
use Rattle.network_members.specs.Tiers.{Tiers, lost_in, members_of}

abbrev pub answer_of : Result ℕ Refused → Answered
answer_of (Ok k) = Ok (Loaded k)
answer_of (Err why) = Err why

abbrev pub deeds_of : As → Rows → Result ℕ Refused → List PlantDeed
deeds_of d g (Ok k) = deeds.Loads d g ∷ []
deeds_of d g (Err why) = []

-- a network with these elements
abbrev pub with_elements : NetworkParts → ℕ → List (Seen Pin Segment) → Plant → Plant
with_elements n now es s = record s { elements = elements_in n now es; current = current_in first_pin es }

-- a network with these members
abbrev pub with_members : Membership Pin Segment → Plant → Plant
with_members ms s = record s { elements = ms.elements; current = ms.current }

-- An element loads a topology, which is the model's step, whatever is on its way. Requests and keys stay.
pub record Loads (d : As) (g : Rows) (old : Tiers Pin Segment) (r : Result ℕ Refused) (new : Tiers Pin Segment) : Type 0 where
  pub network : new.network ≡ old.network
  pub lost : lost_in new ≡ lost_in old
  pub elements : (members_of first_pin new).elements ≡ (members_of first_pin old).elements
  pub parent : (members_of first_pin new).parent ≡ (members_of first_pin old).parent
  pub steps : (s : Plant) →
      Steps wire old.network (with_members (members_of first_pin old) s) (event.Load d g) (record { answer = answer_of r; state = with_members (members_of first_pin new) s; deeds = deeds_of d g r })
