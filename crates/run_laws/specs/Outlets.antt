-- Drains hand out to an outside peer what was put there for its connection, in order, from its Open on.
use Rattle.std.specs.Prelude.{◌≡◌, ◌==◌, ℕ, true, cond, List, [], ◌∷◌, ◌++◌, map, Option, Some, None, option_map, Ok, Err}
use Rattle.plant_laws.specs.plant_model.Types.{Message, NetworkParts, Outside}
use Rattle.pcep_framing.specs.Frames.{joined}
use Rattle.request_table.specs.Pending.{same_peer}
use Rattle.plant_laws.specs.plant_model.declared.event.Event.{Event}
use Rattle.plant_laws.specs.plant_model.declared.event.Event.TheVariants as event
use Rattle.plant_laws.specs.plant_model.declared.outcome.Outcome.TheVariants.{Done, Loaded, Drained}
use Rattle.plant_laws.specs.plant_model.declared.output.Output.{Output}
use Rattle.plant_laws.specs.plant_model.Wire.{Bytes, Codec}
use Rattle.plant_laws.specs.plant_model.Blind.{is_accepted}
use Rattle.plant_laws.specs.plant_model.Events.{Answered}
use Rattle.plant_laws.specs.plant_model.State.{Connection, Deed, Takes, Says, Downs, Solves}
use Rattle.plant_laws.specs.plant_model.Plant.{Plant, Entry, Run}

-- ---- what is put there for a peer

abbrev pub put_for : ℕ → List Output → List Message
put_for i [] = []
put_for i (o ∷ os) = cond (same_peer o.to (Outside i)) (o.message ∷ put_for i os) (put_for i os)

-- what a deed sends, whoever does it
abbrev pub outputs_of : {S : Type 0} → Deed S → List Output
outputs_of (Takes at from m os) = os
outputs_of (Says at o) = o ∷ []
outputs_of (Downs at p os) = os
outputs_of (Solves at k os keys) = os
outputs_of e = []

-- the messages for the peer, in order; deeds have the newest first
abbrev pub messages_for : {S : Type 0} → ℕ → List (Deed S) → List Message
messages_for i [] = []
messages_for i (d ∷ ds) = messages_for i ds ++ put_for i (outputs_of d)

-- the bytes of messages, one behind the other
abbrev pub bytes_of : Codec → List Message → Bytes
bytes_of c ms = joined (map (λ m. c.text m) ms)

-- ---- a connection as the transcript shows it

-- what an accepted event is to the connection of the peer
pub data ConnectionChange : Type 0 where
  Opens : (holder : ℕ) → ConnectionChange
  Shuts Drains Stays : ConnectionChange

abbrev pub turn_for : ℕ → Event → ConnectionChange
turn_for i (event.Open j holder) = cond (j == i) (Opens holder) Stays
turn_for i (event.Shut j) = cond (j == i) Shuts Stays
turn_for i (event.Drain j holder) = cond (j == i) Drains Stays
turn_for i _ = Stays

-- who opened it, what was put there for it since, and what its drains handed out
pub record Outlet : Type 0 where
  pub holder : ℕ
  pub put : List Message
  pub handed : Bytes

abbrev pub with_put : List Message → Outlet → Outlet
with_put ms x = record x { put = x.put ++ ms }

abbrev pub with_handed : Bytes → Outlet → Outlet
with_handed bytes x = record x { handed = x.handed ++ bytes }

-- An Open makes a new one, with what the event itself puts there; a Shut leaves none. All other events put there what they say: also
-- a link that breaks, and a session that ends, whose connection stays open. Where there is none, what is said for the peer is lost.
abbrev pub turned : ConnectionChange → List Message → Bytes → Option Outlet → Option Outlet
turned (Opens holder) ms bytes before = Some (record { holder = holder; put = ms; handed = [] })
turned Shuts ms bytes before = None
turned Drains ms bytes before = option_map (with_handed bytes) before
turned Stays ms bytes before = option_map (with_put ms) before

abbrev pub handed_in : Answered → Bytes
handed_in (Ok (Drained bytes ended)) = bytes
handed_in (Ok Done) = []
handed_in (Ok (Loaded generation)) = []
handed_in (Err why) = []

-- the connection of the peer after these entries, the newest first, if it is open; refused events leave it
abbrev pub outlet : ℕ → List Entry → Option Outlet
outlet i [] = None
outlet i (e ∷ older) = cond (is_accepted e.answer) (turned (turn_for i e.event) (messages_for i e.deeds) (handed_in e.answer) (outlet i older)) (outlet i older)

-- ---- the laws

-- the state's connection is the transcript's
pub record Stands (c : Codec) (x : Outlet) (k : Connection) : Type 0 where
  pub holder : k.holder ≡ x.holder
  pub all : x.handed ++ joined k.out ≡ bytes_of c x.put

abbrev pub AreOne : Codec → Option Outlet → Option Connection → Type 0
AreOne c None None = Unit {0}
AreOne c None (Some k) = ⊥
AreOne c (Some x) None = ⊥
AreOne c (Some x) (Some k) = Stands c x k

abbrev pub OutletsStand : Type 0
OutletsStand = (c : Codec) (n : NetworkParts) (es : List Entry) (s : Plant) → Run c n es s → (i : ℕ) → AreOne c (outlet i es) (s.accesses i).connection

-- nothing waits, and this holder has it
abbrev pub IsHandedOut : Codec → ℕ → Option Outlet → Type 0
IsHandedOut c holder None = ⊥
IsHandedOut c holder (Some x) = (x.holder ≡ holder) × (x.handed ≡ bytes_of c x.put)

abbrev pub DrainsHandOutAll : Type 0
DrainsHandOutAll =
    (c : Codec) (n : NetworkParts) (e : Entry) (older : List Entry) (s : Plant) → Run c n (e ∷ older) s →
    (i holder : ℕ) → e.event ≡ event.Drain i holder → is_accepted e.answer ≡ true → IsHandedOut c holder (outlet i (e ∷ older))
