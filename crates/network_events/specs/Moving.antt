-- What a network keeps between events, and how it goes on by one.
use Rattle.std.specs.Prelude.{◌≡◌, ◌⊎◌, ◌<◌, ◌^◌, Bool, true, false, List, [], length}
use Rattle.pce_common.specs.plant_model.Types.{As, Hop, NetworkParts}
use Rattle.plant_text.specs.Names.{parent_as, same_as}
use Rattle.plant_text.specs.Settings.{has_adjacency, is_element, adjacencies}
use Rattle.pce_common.specs.plant_model.declared.outcome.Refused.TheVariants.{NoMemory}
use Rattle.pce_common.specs.plant_model.Events.{Answered, Happened, refused}
use Rattle.pce_common.specs.plant_model.RealWire.{wire}
use Rattle.pce_common.specs.plant_model.State.{State}
use Rattle.pce_common.specs.Membership.{AreJoined}
use Rattle.network_events.specs.Passing.{IsOf}
use Rattle.network_events.specs.Rooms.{IsRoomy}
use Rattle.network_events.specs.Standing.{Here, state_of}
use Rattle.plant_laws.specs.Lasting.{AreInOrder, KeysInTime}
use Rattle.network_events.specs.Whole.{Step, Stepped, Whole}

module _ {P : Type 0} {S : Type 0} where
  abbrev pub whole : Here P S → Whole P S
  whole h = record { network = h.network; state = state_of h.seen h.flow; said = h.flow.said }

  -- what an event leaves in memory: the links and peers of the settings, no lost request that is not yet told, and room for what
  -- takes no memory
  pub record IsKept (h : Here P S) : Type 0 where
    pub of : IsOf h.network h.flow
    pub none : (d : As) → h.lost d ≡ []
    pub roomy : IsRoomy h.network h.seen h.flow

  -- between two events
  pub record IsSound (h : Here P S) : Type 0 where
    pub joined : AreJoined h.network
    pub apart : (a b : As) → has_adjacency a b (adjacencies h.network) ≡ true → same_as a b ≡ false
    pub below : (d : As) → is_element h.network d ≡ true → same_as d parent_as ≡ false
    pub few : length h.network.peers < 2 ^ 32
    pub kept : IsKept h
    pub order : AreInOrder (whole h).state
    pub keys : KeysInTime (whole h).state

  -- a step is done, and what it needs to be sound again is kept
  pub record Moves (step : Step P S) (old : Here P S) (answer : Answered) (new : Here P S) : Type 0 where
    pub stepped : Stepped step (whole old) answer (whole new)
    pub kept : IsKept new

  -- this happens, or, where it takes memory, it is refused when out of memory, and nothing changes
  abbrev pub OrLacks : (S → List Hop) → (State P S → Bool) → (NetworkParts → State P S → Happened P S) → Step P S
  OrLacks show needs happens n s h = (h ≡ happens n s) ⊎ ((needs s ≡ true) × (h ≡ refused P S wire n show NoMemory s))
