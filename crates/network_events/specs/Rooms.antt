-- The room that is kept between events, so that a tick, a break and a shut take no memory.
use Rattle.std.specs.Prelude.{◌≡◌, ℕ, ◌+◌, ◌*◌, Bool, true, false, not, cond, [], length, Option, Some, None}
use Rattle.pce_common.specs.plant_model.Types.{As, Peer, Outside, Inner, NetworkParts}
use Rattle.plant_queues.specs.Messages.{Spare, Covers, total}
use Rattle.plant_queues.specs.Sents.{size_of}
use Rattle.plant_text.specs.Names.{same_as}
use Rattle.plant_text.specs.Settings.{has_adjacency, adjacencies, elements_of}
use Rattle.pce_common.specs.plant_model.State.{Connection}
use Rattle.pce_common.specs.plant_model.Deeds.{element_of}
use Rattle.pce_common.specs.plant_model.Events.{is_down}
use Rattle.network_links.specs.declared.TheConstants.{ANSWER_LENGTH, OWN_LENGTH}
use Rattle.network_links.specs.Flow.{Flow, KeepsRoomAt}
use Rattle.pce_common.specs.Membership.{Membership}
use Rattle.pce_common.specs.Owed.{owed, pending_in}

-- a connection that is open, and whose session is not over
abbrev pub is_talking : Option Connection → Bool
is_talking None = false
is_talking (Some x) = not (is_down x.session.phase)

-- The queue from a member to a peer is used.
abbrev pub is_live : NetworkParts → Flow → As → Peer → Bool
is_live n f at (Outside i) = cond (same_as at (element_of n i)) (is_talking (f.accesses i).connection) false
is_live n f at (Inner b) = has_adjacency at b (adjacencies n)

-- Each queue that is used keeps room for an answer to each request that is owed one. Through no other queue is any owed.
pub record KeepsAnswers {P : Type 0} {S : Type 0} (n : NetworkParts) (ms : Membership P S) (f : Flow) : Type 0 where
  pub live : (at : As) (to : Peer) → is_live n f at to ≡ true → KeepsRoomAt at to (owed at to ms) (ANSWER_LENGTH * owed at to ms) f
  pub dead : (at : As) (to : Peer) → is_live n f at to ≡ false → owed at to ms ≡ 0

-- how many messages of their own sessions say at most at one tick
abbrev pub own_most : NetworkParts → ℕ
own_most n = 2 * length n.peers + 4 * length (adjacencies n)

-- the list of said messages has room for so many messages of sessions, and for every answer that is owed
abbrev pub KeepsSaid : {P : Type 0} {S : Type 0} → ℕ → NetworkParts → Membership P S → Spare → Type 0
KeepsSaid own n ms room =
    let pending = pending_in (elements_of n.elements) ms in
    Covers room (own + pending) (OWN_LENGTH * own + ANSWER_LENGTH * pending)

-- the room of the list of said messages once it is cleared, as it is in the next event
abbrev pub said_in_all : Flow → Spare
said_in_all f = record { messages = f.room.said.messages + length f.said; bytes = f.room.said.bytes + total size_of f.said }

-- what an event begins with, once what was said is cleared
abbrev pub emptied : Flow → Flow
emptied f = record f { said = []; room = record f.room { said = said_in_all f } }

-- between two events
pub record IsRoomy {P : Type 0} {S : Type 0} (n : NetworkParts) (ms : Membership P S) (f : Flow) : Type 0 where
  pub answers : KeepsAnswers n ms f
  pub said : KeepsSaid (own_most n) n ms (said_in_all f)
