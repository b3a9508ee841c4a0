-- The room that queues keep for messages that are said where no memory may be taken.
use Rattle.std.specs.Prelude.{◌≡◌, ◌≤◌, ℕ, ◌+◌, List, [], ◌∷◌, ◌++◌, length, drop}
use Rattle.plant_queues.specs.Messages.{Queued, Spare, Covers, IsRoomAgain, total}
use Rattle.network_links.specs.declared.TheConstants.{OWN_LENGTH}

abbrev pub Queue : Type 0
Queue = Queued (List ℕ)

abbrev pub queue : List (List ℕ) → Spare → Queue
queue out spare = record { kept = out; spare = spare }

-- the room once the queue is emptied
abbrev pub room_in_all : Queue → Spare
room_in_all q = record {
  messages = q.spare.messages + length q.kept;
  bytes = q.spare.bytes + total (λ (message : List ℕ). length message) q.kept;
}

-- Room for an error and a Close of the session, whatever is queued, and for so much more. Besides, where nothing is queued
-- there is room for a Keepalive or an Open.
pub record KeepsRoom (messages bytes : ℕ) (q : Queue) : Type 0 where
  pub last_words : Covers q.spare (2 + messages) (OWN_LENGTH + OWN_LENGTH + bytes)
  pub first_word : Covers (room_in_all q) (3 + messages) (OWN_LENGTH + OWN_LENGTH + OWN_LENGTH + bytes)

-- no less room than before
pub record Grows (old new : Spare) : Type 0 where
  pub messages : old.messages ≤ new.messages
  pub bytes : old.bytes ≤ new.bytes

-- no more room is used up than one message takes
pub record Spends (message : List ℕ) (old new : Spare) : Type 0 where
  pub messages : old.messages ≤ new.messages + 1
  pub bytes : old.bytes ≤ new.bytes + length message

pub record Puts (message : List ℕ) (old new : Queue) : Type 0 where
  pub kept : new.kept ≡ old.kept ++ message ∷ []
  pub spends : Spends message old.spare new.spare

-- the room of messages that left is free again
abbrev pub Frees : Queue → Queue → Type 0
Frees old new = IsRoomAgain (λ (message : List ℕ). length message) old new

-- ---- the room that is kept goes from call to call

-- A message takes the room that was kept for it and no other.
abbrev pub PutLeavesRoom : Type 0
PutLeavesRoom = (message : List ℕ) (old new : Queue) (messages bytes : ℕ) →
    KeepsRoom (1 + messages) (length message + bytes) old → Puts message old new → KeepsRoom messages bytes new

-- The first message of an empty queue, where it is no longer than a session's own, takes none of that room.
abbrev pub FirstLeavesRoom : Type 0
FirstLeavesRoom = (message : List ℕ) (old new : Queue) (messages bytes : ℕ) →
    old.kept ≡ [] → length message ≤ OWN_LENGTH → KeepsRoom messages bytes old → Puts message old new → KeepsRoom messages bytes new

-- So do messages that leave.
abbrev pub LessLeavesRoom : Type 0
LessLeavesRoom = (old new : Queue) (count messages bytes : ℕ) →
    new.kept ≡ drop count old.kept → Frees old new → KeepsRoom messages bytes old → KeepsRoom messages bytes new
