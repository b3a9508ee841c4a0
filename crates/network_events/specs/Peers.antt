-- The model's definitions for outside peers and for ends of links, as one for any peer.
use Rattle.std.specs.Prelude.{◌≡◌, Bool, true, false, cond, List, [], ◌∷◌}
use Rattle.pce_common.specs.plant_model.Types.{As, Peer, Outside, Inner, Hop, Message, Action, Input, NetworkParts}
use Rattle.pcep_session.specs.declared.actions.Action.TheVariants as action
use Rattle.plant_text.specs.Names.{same_as}
use Rattle.plant_text.specs.Settings.{has_adjacency, adjacency, adjacencies}
use Rattle.pce_common.specs.plant_model.Deeds as deeds
use Rattle.pce_common.specs.plant_model.Deeds.{Going, any_fall, element_of, is_due, is_out_empty, with_inbox}
use Rattle.pce_common.specs.plant_model.Element.{Row}
use Rattle.pce_common.specs.plant_model.Names.{is_empty}
use Rattle.pce_common.specs.plant_model.Outside.{heeded}
use Rattle.pce_common.specs.plant_model.Events as events
use Rattle.pce_common.specs.plant_model.Events.{Happened}
use Rattle.pce_common.specs.plant_model.RealWire.{wire}
use Rattle.pce_common.specs.plant_model.State.{State}
use Rattle.network_links.specs.Flow.{Flow}
use Rattle.pce_common.specs.Membership.{is_member}
use Rattle.network_events.specs.Standing.{Here}

-- both ends of a link are members, and two
pub record IsLinkEnd (n : NetworkParts) (f : Flow) (at b : As) : Type 0 where
  pub other : is_member n b ≡ true
  pub apart : same_as b at ≡ false
  pub linked : has_adjacency at b f.adjacencies ≡ true

abbrev pub IsEnd : NetworkParts → Flow → As → Peer → Type 0
IsEnd n f at (Outside i) = at ≡ element_of n i
IsEnd n f at (Inner b) = IsLinkEnd n f at b

-- it is a member, and no lost request waits to be told
pub record IsAtEnd {P : Type 0} {S : Type 0} (at : As) (to : Peer) (h : Here P S) : Type 0 where
  pub end : IsEnd h.network h.flow at to
  pub member : is_member h.network at ≡ true
  pub none : (a : As) → h.lost a ≡ []

-- such a link is one of the settings
abbrev pub IsPlaced : NetworkParts → As → Peer → Type 0
IsPlaced n at (Outside i) = at ≡ element_of n i
IsPlaced n at (Inner b) = (has_adjacency b at (adjacencies n) ≡ true) × (same_as b at ≡ false)

-- a session of a link that goes down breaks it
abbrev pub breaks_by : Peer → List Action → Bool
breaks_by (Outside i) as' = false
breaks_by (Inner b) as' = any_fall as'

-- what a member is given of a message that a session passes on: of an outside peer's message what its element heeds by its pending requests
abbrev pub heard_from : {P : Type 0} → Peer → List (Row P) → Message → Message
heard_from (Outside i) rows m = heeded wire (Outside i) rows m
heard_from (Inner b) rows m = m

module _ (P : Type 0) (S : Type 0) (n : NetworkParts) (show : S → List Hop) where
  -- nothing waits for the peer
  abbrev pub is_out_empty_at : As → Peer → State P S → Bool
  is_out_empty_at at (Outside i) s = is_out_empty (s.accesses i).connection
  is_out_empty_at at (Inner b) s = is_empty (s.queues at b)

  -- When the session goes down, the inbox of an outside peer is emptied; a link breaks as a whole.
  abbrev pub down_at : As → Peer → Going P S → Going P S
  down_at at (Outside i) g = deeds.fall P S wire n show at (Outside i) (record { state = deeds.with_access P S wire n show i (with_inbox []) g.state; deeds = g.deeds })
  down_at at (Inner b) g = g

  abbrev pub act_at : As → Peer → Bool → Action → Going P S → Going P S
  act_at at to ticks (action.Send o) g = cond (cond ticks (cond (is_due o) (cond (is_out_empty_at at to g.state) false true) false) false) g (deeds.say P S wire n show at to o g)
  act_at at to ticks action.Up g = deeds.rise P S wire n show at to g
  act_at at to ticks (action.Down why) g = down_at at to g
  act_at at to ticks (action.Pass m) g = deeds.give P S wire n show at to (heard_from to (g.state.elements at).pending.rows m) g

  abbrev pub acts_at : As → Peer → Bool → List Action → Going P S → Going P S
  acts_at at to ticks [] g = g
  acts_at at to ticks (a ∷ as') g = acts_at at to ticks as' (act_at at to ticks a g)

  abbrev pub break_at : As → Peer → Going P S → Going P S
  break_at at (Outside i) g = g
  break_at at (Inner b) g = deeds.break_adjacency P S wire n show (adjacency b at) g

  abbrev pub input_at : As → Peer → Input → Going P S → Going P S
  input_at at (Outside i) x g = deeds.outside_input P S wire n show i x g
  input_at at (Inner b) x g = deeds.inner_input P S wire n show (adjacency b at) at b x g

  -- a member is given the first item that waits for it
  abbrev pub receive_at : As → Peer → State P S → Happened P S
  receive_at at (Outside i) s = events.take P S wire n show i s
  receive_at at (Inner b) s = events.carry P S wire n show b at s
