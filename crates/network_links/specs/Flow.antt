-- The state between the members of a network, whatever its elements are.
use Rattle.std.specs.Prelude.{◌≡◌, ℕ, ◌+◌, ◌%◌, true, List, [], ◌∷◌, ◌++◌, Option, Some, None, Result, OnOk, OnErr, drop, slice_get}
use Rattle.std.specs.Option.{option_map}
use Rattle.plant_model.specs.Types.{As, NoMemory, Peer, Outside, Inner, Tick, State as Session, Sent}
use Rattle.pcep_session.specs.declared.actions.Own.TheVariants.{Open}
use Rattle.pcep_session.specs.declared.session.Input.TheVariants.{Begin}
use Rattle.pcep_session.specs.Table.{new_state, turn_of}
use Rattle.plant_queues.specs.Messages.{Spare, IsRoomAgain}
use Rattle.plant_queues.specs.Sents.{sent_of, size_of}
use Rattle.plant_text.specs.Names.{parent_as}
use Rattle.plant_text.specs.Settings.{Adjacency, has_adjacency}
use Rattle.plant_model.specs.Names.{set_pair, set_number}
use Rattle.plant_model.specs.Wire.{Bytes}
use Rattle.plant_model.specs.State.{Connection, Access, State}
use Rattle.plant_model.specs.Deeds.{on_connection, our_offer, with_inbox, with_more, with_session}
use Rattle.network_links.specs.Ends.{just_open, own_bytes}
use Rattle.network_links.specs.Links.{new_sender}
use Rattle.network_links.specs.Rooms.{KeepsRoom, Grows, Spends, Frees, queue}

-- ---- what it is

-- how much memory the queues, and the messages of a step, have for more
pub record Room : Type 0 where
  pub outside : ℕ → Spare
  pub inner : As → As → Spare
  pub said : Spare

-- The inner links in their order and the number of outside peers never change. Beyond the last peer nobody was ever open, and
-- between two ends without a link stands a session that has not begun.
pub record Flow : Type 0 where
  pub adjacencies : List Adjacency
  pub peers : ℕ
  pub clock : ℕ
  pub accesses : ℕ → Access
  pub sessions : As → As → Session
  pub queues : As → As → List Bytes
  pub said : List Sent
  pub room : Room

-- a network with this on its way
abbrev pub with_flow : {P : Type 0} {S : Type 0} → Flow → State P S → State P S
with_flow f s = record s { clock = f.clock; accesses = f.accesses; sessions = f.sessions; queues = f.queues }

-- the same, whatever memory there is
abbrev pub SameFlow : Flow → Flow → Type 0
SameFlow a b = b ≡ record a { room = b.room }

-- ---- the queue from a member to a peer

abbrev pub out_of : Option Connection → List Bytes
out_of None = []
out_of (Some x) = x.out

abbrev pub inbox_of : Option Connection → List (Option Bytes)
inbox_of None = []
inbox_of (Some x) = x.inbox

-- there is none to an outside peer that is closed, or without a link
abbrev pub queue_at : As → Peer → Flow → List Bytes
queue_at at (Outside i) f = out_of (f.accesses i).connection
queue_at at (Inner b) f = f.queues at b

abbrev pub room_at : As → Peer → Flow → Spare
room_at at (Outside i) f = f.room.outside i
room_at at (Inner b) f = f.room.inner at b

-- a queue keeps room for so many more messages, of so many bytes together
abbrev pub KeepsRoomAt : As → Peer → ℕ → ℕ → Flow → Type 0
KeepsRoomAt at to messages bytes f = KeepsRoom messages bytes (queue (queue_at at to f) (room_at at to f))

abbrev pub no_room : Spare
no_room = record { messages = 0; bytes = 0 }

abbrev pub set_room : As → Peer → Spare → Room → Room
set_room at (Outside i) spare room = record room { outside = set_number i spare room.outside }
set_room at (Inner b) spare room = record room { inner = set_pair at b spare room.inner }

abbrev pub just_opened : ℕ → Tick → Access → Access
just_opened holder now a = record { opened = a.opened + 1; connection = Some (just_open holder (a.opened % 256) now) }

abbrev pub set_access : ℕ → Access → Flow → Flow
set_access i a f = record f { accesses = set_number i a f.accesses }

-- the connection of an outside peer changes, if it is open
abbrev pub change_access : ℕ → (Connection → Connection) → Flow → Flow
change_access i g f = set_access i (on_connection g (f.accesses i)) f

abbrev pub set_session : As → As → Session → Flow → Flow
set_session at b session f = record f { sessions = set_pair at b session f.sessions }

abbrev pub set_queue : As → As → List Bytes → Flow → Flow
set_queue at b out f = record f { queues = set_pair at b out f.queues }

abbrev pub drop_first : Connection → Connection
drop_first x = with_inbox (drop 1 x.inbox) x

-- ---- the session of a member with a peer

-- there is none with an outside peer that is closed
abbrev pub session_at : As → Peer → Flow → Option Session
session_at at (Outside i) f = option_map (λ (x : Connection). x.session) (f.accesses i).connection
session_at at (Inner b) f = Some (f.sessions at b)

abbrev pub set_session_at : As → Peer → Session → Flow → Flow
set_session_at at (Outside i) session f = change_access i (with_session session) f
set_session_at at (Inner b) session f = set_session at b session f

-- at an end of a link it has the number that it had
abbrev pub MaySet : As → Peer → Session → Flow → Type 0
MaySet at (Outside i) session f = Unit {0}
MaySet at (Inner b) session f = (has_adjacency at b f.adjacencies ≡ true) × (session.offer.sid ≡ (f.sessions at b).offer.sid)

-- the first item that waits for it; only from outside comes what cannot be a message
abbrev pub first_at : As → Peer → Flow → Option (Option Bytes)
first_at at (Outside i) f = slice_get (inbox_of (f.accesses i).connection) 0
first_at at (Inner b) f = option_map Some (slice_get (f.queues b at) 0)

-- ---- outside peers

-- its queue keeps room for what its session says of itself
pub record Connects (i holder : ℕ) (old : Flow) (r : Result (Unit {0}) NoMemory) (new : Flow) : Type 0 where
  pub ok : OnOk r (new ≡ record (set_access i (just_opened holder (record { 0 = old.clock }) (old.accesses i)) old) { room = set_room parent_as (Outside i) (new.room.outside i) old.room })
  pub room : OnOk r (KeepsRoomAt parent_as (Outside i) 0 0 new)
  pub err : OnErr r (new ≡ old)

-- it is closed, and its memory given back
abbrev pub shut : ℕ → Flow → Flow
shut i f = record (set_access i (record { opened = (f.accesses i).opened; connection = None }) f) { room = set_room parent_as (Outside i) no_room f.room }

-- ---- inner links

-- the first message of a queue leaves
pub record DropsFirst (at to : As) (old new : Flow) : Type 0 where
  pub kept : new ≡ record (set_queue at to (drop 1 (old.queues at to)) old) { room = set_room at (Inner to) (new.room.inner at to) old.room }
  pub room : Frees (queue (old.queues at to) (old.room.inner at to)) (queue (new.queues at to) (new.room.inner at to))

-- the first item that waits for a member leaves
abbrev pub DropsFirstAt : As → Peer → Flow → Flow → Type 0
DropsFirstAt at (Outside i) old new = new ≡ change_access i drop_first old
DropsFirstAt at (Inner b) old new = DropsFirst b at old new

-- both queues of a link are emptied
pub record Clears (a b : As) (old new : Flow) : Type 0 where
  pub kept : new ≡ record (set_queue a b [] (set_queue b a [] old)) { room = set_room a (Inner b) (new.room.inner a b) (set_room b (Inner a) (new.room.inner b a) old.room) }
  pub here : Frees (queue (old.queues a b) (old.room.inner a b)) (queue [] (new.room.inner a b))
  pub there : Frees (queue (old.queues b a) (old.room.inner b a)) (queue [] (new.room.inner b a))

-- ---- what changes room alone

-- that of one queue, which is no less
pub record GrowsAt (at : As) (to : Peer) (old new : Flow) : Type 0 where
  pub same : new ≡ record old { room = set_room at to (room_at at to new) old.room }
  pub room : Grows (room_at at to old) (room_at at to new)

-- ---- a message is put into a queue, and said

abbrev pub put_at : As → Peer → Bytes → Flow → Flow
put_at at (Outside i) message f = change_access i (with_more message) f
put_at at (Inner b) message f = set_queue at b (f.queues at b ++ message ∷ []) f

abbrev pub put_flow : As → Peer → Bytes → Flow → Flow
put_flow at to message f = record (put_at at to message f) { said = f.said ++ sent_of at to message ∷ [] }

-- This queue and the list of said messages lose room for no more than one message; no other queue's room changes.
pub record SpendsAt (at : As) (to : Peer) (message : Bytes) (old new : Flow) : Type 0 where
  pub there : Spends message (room_at at to old) (room_at at to new)
  pub said : Spends message old.room.said new.room.said
  pub elsewhere : new.room ≡ set_room at to (room_at at to new) (record old.room { said = new.room.said })

pub record Puts (at : As) (to : Peer) (message : Bytes) (old new : Flow) : Type 0 where
  pub kept : SameFlow (put_flow at to message old) new
  pub room : SpendsAt at to message old new

-- the session at an end of a link is made anew and begun: it says its Open
pub record Begins (at b : As) (sid : ℕ) (old new : Flow) : Type 0 where
  pub kept : SameFlow (put_flow at (Inner b) (own_bytes (Open (our_offer sid))) (set_session at b (turn_of (new_state (our_offer sid) (record { 0 = old.clock })) Begin).next old)) new
  pub room : SpendsAt at (Inner b) (own_bytes (Open (our_offer sid))) old new

-- ---- the messages of a step

pub record GrowsSaid (old new : Flow) : Type 0 where
  pub same : new ≡ record old { room = record old.room { said = new.room.said } }
  pub room : Grows old.room.said new.room.said

pub record ClearsSaid (old new : Flow) : Type 0 where
  pub kept : new ≡ record old { said = []; room = record old.room { said = new.room.said } }
  pub room : IsRoomAgain size_of (record { kept = old.said; spare = old.room.said }) (record { kept = []; spare = new.room.said })

-- ---- the beginning

-- nothing has begun, and each end of a link keeps room for what its session says of itself
pub record IsBare (adjacencies : List Adjacency) (peers : ℕ) (f : Flow) : Type 0 where
  pub adjacencies_are : f.adjacencies ≡ adjacencies
  pub peers_are : f.peers ≡ peers
  pub clock : f.clock ≡ 0
  pub accesses : f.accesses ≡ (λ i. record { opened = 0; connection = None })
  pub sessions : f.sessions ≡ (λ a b. new_sender.session)
  pub queues : f.queues ≡ (λ a b. [])
  pub said : f.said ≡ []
  pub room : (a b : As) → has_adjacency a b adjacencies ≡ true → KeepsRoomAt a (Inner b) 0 0 f
