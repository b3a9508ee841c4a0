-- The actions of a step of a session: their order, and the room that they need.
use Rattle.std.specs.Prelude.{◌≡◌, ◌≤◌, ℕ, ◌+◌, ◌*◌, true, false, cond, List, [], ◌∷◌, length, Option, Some, None}
use Rattle.pce_common.specs.plant_model.Types.{As, Peer, Outside, Inner, Action, Input, State as Session}
use Rattle.pcep_session.specs.declared.actions.Action.TheVariants.{Send, Up, Down, Pass}
use Rattle.pcep_session.specs.Table.{turn_of}
use Rattle.request_table.specs.Pending.{same_peer}
use Rattle.plant_queues.specs.Messages.{Covers, total}
use Rattle.plant_text.specs.Settings.{adjacency}
use Rattle.pce_common.specs.plant_model.declared.output.Lost.{Lost}
use Rattle.pce_common.specs.plant_model.Deeds.{any_fall}
use Rattle.pce_common.specs.plant_model.Wire.{Bytes}
use Rattle.network_links.specs.declared.TheConstants.{ANSWER_LENGTH}
use Rattle.network_links.specs.Ends.{said_in, own_bytes}
use Rattle.network_links.specs.Flow.{Flow, room_at}
use Rattle.pce_common.specs.Membership.{Membership, fallen, lost_at}
use Rattle.pce_common.specs.Owed.{is_peer}
use Rattle.network_events.specs.Telling.{RoomToTell, count_lost}
use Rattle.network_events.specs.Breaking.{RoomToBreak}
use Rattle.network_events.specs.Peers.{breaks_by}

-- Messages of its own come first, and whether it comes up or goes down stands last. Nothing is passed on.
abbrev pub IsOwnTurn : List Action → Type 0
IsOwnTurn [] = Unit {0}
IsOwnTurn (Send o ∷ as') = IsOwnTurn as'
IsOwnTurn (Up ∷ as') = as' ≡ []
IsOwnTurn (Down why ∷ as') = as' ≡ []
IsOwnTurn (Pass m ∷ as') = ⊥

abbrev pub size_in : List Bytes → ℕ
size_in ms = total (λ (m : Bytes). length m) ms

-- these messages were put into a queue, and into no other of the member
pub record Spent (at : As) (to : Peer) (ms : List Bytes) (old new : Flow) : Type 0 where
  pub messages : (room_at at to old).messages ≤ (room_at at to new).messages + length ms
  pub bytes : (room_at at to old).bytes ≤ (room_at at to new).bytes + size_in ms
  pub said : old.room.said.messages ≤ new.room.said.messages + length ms
  pub said_bytes : old.room.said.bytes ≤ new.room.said.bytes + size_in ms
  pub elsewhere : (q : Peer) → same_peer to q ≡ false → room_at at q new ≡ room_at at q old

-- the requests that are lost by them
abbrev pub lost_by : List Action → List Lost → List Lost
lost_by as' ls = cond (any_fall as') ls []

-- room for the messages in the queue, and for the answers of lost requests in the others
pub record RoomToAct (at : As) (to : Peer) (as' : List Action) (ls : List Lost) (f : Flow) : Type 0 where
  pub there : Covers (room_at at to f) (length (said_in as')) (size_in (said_in as'))
  pub none : count_lost (is_peer to) ls ≡ 0
  pub elsewhere : (q : Peer) → same_peer to q ≡ false → Covers (room_at at q f) (count_lost (is_peer q) ls) (ANSWER_LENGTH * count_lost (is_peer q) ls)
  pub said : Covers f.room.said (length (said_in as') + length ls) (size_in (said_in as') + ANSWER_LENGTH * length ls)

-- room for an action that passes nothing on
abbrev pub RoomFor : {P : Type 0} {S : Type 0} → As → Peer → Action → Membership P S → Flow → Type 0
RoomFor at to (Send o) ms f = Covers (room_at at to f) 1 (length (own_bytes o)) × Covers f.room.said 1 (length (own_bytes o))
RoomFor at to Up ms f = Unit {0}
RoomFor at to (Down why) ms f = RoomToTell at (lost_at at to ms) f
RoomFor at to (Pass m) ms f = ⊥

-- what it leaves as it was, and what it spends, where others may follow
abbrev pub LeavesOff : {P : Type 0} {S : Type 0} → As → Peer → Action → Membership P S → Flow → Membership P S → Flow → Type 0
LeavesOff at to (Send o) ms f ms' f' = (ms' ≡ ms) × Spent at to (own_bytes o ∷ []) f f'
LeavesOff at to _ ms f ms' f' = Unit {0}

-- An input passes nothing on, and there is room for what its actions ask for.
pub record Fits {P : Type 0} {S : Type 0} (at : As) (to : Peer) (as' : List Action) (ms : Membership P S) (f : Flow) : Type 0 where
  pub turn : IsOwnTurn as'
  pub room : RoomToAct at to as' (lost_by as' (lost_at at to ms)) f

-- room to break the link
abbrev pub RoomToBreakAt : {P : Type 0} {S : Type 0} → As → Peer → Membership P S → Flow → Type 0
RoomToBreakAt at (Outside i) ms f = Unit {0}
RoomToBreakAt at (Inner b) ms f =
    let x = adjacency b at in
    RoomToBreak x.lower x.upper (lost_at x.lower (Inner x.upper) ms) (lost_at x.upper (Inner x.lower) (fallen x.lower (Inner x.upper) ms)) f

-- the same at any peer, of which a link may break by it
pub record FitsTurn {P : Type 0} {S : Type 0} (at : As) (to : Peer) (as' : List Action) (ms : Membership P S) (f : Flow) : Type 0 where
  pub stays : breaks_by to as' ≡ false → Fits at to as' ms f
  pub breaks : breaks_by to as' ≡ true → RoomToBreakAt at to ms f

abbrev pub FitsInput : {P : Type 0} {S : Type 0} → As → Peer → Input → Option Session → Membership P S → Flow → Type 0
FitsInput at to x None ms f = Unit {0}
FitsInput at to x (Some s) ms f = FitsTurn at to (turn_of s x).actions ms f
