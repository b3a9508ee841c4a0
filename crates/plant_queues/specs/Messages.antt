-- Messages in a row, and the room that is kept for more.
use Rattle.std.specs.Prelude.{◌≤◌, ℕ, ◌+◌, List, [], ◌∷◌, ◌++◌, length, take, drop}

pub record Spare : Type 0 where
  pub messages : ℕ
  pub bytes : ℕ

-- what is kept, and room for so many more messages of so many bytes together
pub record Queued (M : Type 0) : Type 0 where
  pub kept : List M
  pub spare : Spare

-- the pieces of these lengths
abbrev pub pieces : List ℕ → List ℕ → List (List ℕ)
pieces [] bytes = []
pieces (n ∷ lengths) bytes = take n bytes ∷ pieces lengths (drop n bytes)

-- all messages, one behind the other
abbrev pub joined : List (List ℕ) → List ℕ
joined [] = []
joined (message ∷ messages) = message ++ joined messages

-- there is room for so much
pub record Covers (spare : Spare) (count size : ℕ) : Type 0 where
  pub messages : count ≤ spare.messages
  pub bytes : size ≤ spare.bytes

-- the bytes of all messages together
abbrev pub total : {M : Type 0} → (M → ℕ) → List M → ℕ
total size [] = 0
total size (message ∷ messages) = size message + total size messages

-- the room of messages that left is free again
pub record IsRoomAgain {M : Type 0} (size : M → ℕ) (old new : Queued M) : Type 0 where
  pub messages : old.spare.messages + length old.kept ≤ new.spare.messages + length new.kept
  pub bytes : old.spare.bytes + total size old.kept ≤ new.spare.bytes + total size new.kept
