-- A member is given a message: what it sends, and the room that this needs.
use Rattle.std.specs.Prelude.{◌≡◌, ℕ, ◌+◌, ◌*◌, Bool, true, List, [], ◌∷◌, length, Some, slice_get}
use Rattle.pce_common.specs.plant_model.Types.{As, Peer, Outside, Inner, Hop, Message, Sent, NetworkParts}
use Rattle.plant_queues.specs.Messages.{Covers, total}
use Rattle.plant_queues.specs.Sents.{size_of}
use Rattle.plant_text.specs.Names.{same_as}
use Rattle.plant_text.specs.Settings.{elements_of}
use Rattle.pce_common.specs.plant_model.Deeds.{element_of}
use Rattle.pce_common.specs.plant_model.RealWire.{wire}
use Rattle.pce_common.specs.plant_model.State.{sent_by}
use Rattle.network_links.specs.declared.TheConstants.{ANSWER_LENGTH, OWN_LENGTH}
use Rattle.network_links.specs.Rooms.{Grows}
use Rattle.network_links.specs.Flow.{Flow, SameFlow, KeepsRoomAt, put_flow, room_at}
use Rattle.network_events.specs.Accounts.{Accounts, count_into, bytes_into}
use Rattle.pce_common.specs.Membership.{Membership, given}
use Rattle.pce_common.specs.Owed.{owed, pending_in}

-- ---- letters: messages that are written and wait to be put

abbrev pub put_all : List Sent → Flow → Flow
put_all [] f = f
put_all (s ∷ ss) f = put_all ss (put_flow s.from s.to s.bytes f)

pub record PutsAll (letters : List Sent) (old new : Flow) : Type 0 where
  pub kept : SameFlow (put_all letters old) new
  pub room : Accounts old new

-- there is room for them
pub record RoomToPut (letters : List Sent) (f : Flow) : Type 0 where
  pub there : (at : As) (to : Peer) → Covers (room_at at to f) (count_into at to letters) (bytes_into at to letters)
  pub said : Covers f.room.said (length letters) (total size_of letters)

-- what a message changes in a member, and the letters that it sends
pub record IsGiven {P : Type 0} {S : Type 0} (n : NetworkParts) (show : S → List Hop) (at : As) (p : Peer) (now : ℕ) (m : Message) (old new : Membership P S) (letters : List Sent) : Type 0 where
  pub members : new ≡ (given wire n show at p now m old).members
  pub letters_are : letters ≡ sent_by wire at (given wire n show at p now m old).outputs

-- ---- room for them

-- nothing changes but room, which is no less
pub record OnlyGrows (old new : Flow) : Type 0 where
  pub same : SameFlow old new
  pub there : (at : As) (to : Peer) → Grows (room_at at to old) (room_at at to new)
  pub said : Grows old.room.said new.room.said

-- an outside peer has one queue, which is its element's
abbrev pub is_own : NetworkParts → As → Peer → Bool
is_own n at (Outside i) = same_as (element_of n i) at
is_own n at (Inner b) = true

-- room for so many letters, and for the answers of what is then pending, where so many requests are new
abbrev pub KeepsForLetters : {P : Type 0} {S : Type 0} → As → Peer → (letters size more : ℕ) → Membership P S → Flow → Type 0
KeepsForLetters at to letters size more ms f = KeepsRoomAt at to (letters + (owed at to ms + more)) (size + ANSWER_LENGTH * (owed at to ms + more)) f

-- how many messages of their own sessions say at most in one event
abbrev pub own_words : Flow → ℕ
own_words f = 2 * f.peers + 4 * length f.adjacencies

-- room in what is said for so many letters, for what sessions say of themselves, and for the answers of what is then pending
abbrev pub CoversWords : {P : Type 0} {S : Type 0} → NetworkParts → (letters size more : ℕ) → Membership P S → Flow → Type 0
CoversWords n letters size more ms f =
    Covers f.room.said ((letters + own_words f) + (pending_in (elements_of n.elements) ms + more))
    ((size + OWN_LENGTH * own_words f) + ANSWER_LENGTH * (pending_in (elements_of n.elements) ms + more))

pub record RoomToGive {P : Type 0} {S : Type 0} (n : NetworkParts) (at : As) (p : Peer) (more : ℕ) (letters : List Sent) (ms : Membership P S) (f : Flow) : Type 0 where
  pub asker : KeepsForLetters at p (length letters) (total size_of letters) more ms f
  pub others : (k : ℕ) (s : Sent) → slice_get letters k ≡ Some s → (is_own n at s.to ≡ true) × KeepsForLetters at s.to (length letters) (total size_of letters) more ms f
  pub said : CoversWords n (length letters) (total size_of letters) more ms f

-- Room for the letters of an answer, after which nothing more is asked than before. There is one, and the first goes to the asker.
abbrev pub RoomToAnswer : {P : Type 0} {S : Type 0} → NetworkParts → As → List Sent → Membership P S → Flow → Type 0
RoomToAnswer n at [] ms f = ⊥
RoomToAnswer n at (s ∷ ss) ms f = RoomToGive n at s.to 0 (s ∷ ss) ms f
