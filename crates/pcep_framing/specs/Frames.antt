-- The messages of a stream of bytes (RFC 5440, 6.1): a header has the version in its first three bits, and in its last
-- two bytes the length of the whole message.
use Rattle.std.specs.Prelude.{◌≡◌, ◌⊎◌, ◌<◌, ◌≤◌, ℕ, ◌/◌, ◌%◌, Bool, true, false, List, [], ◌∷◌, ◌++◌, length, take, slice_index}
use Rattle.dom_base.specs.Parts.{half_at}
use Rattle.pcep_codes.specs.declared.TheConstants.{VERSION}

abbrev pub version_of : List ℕ → ℕ
version_of bytes = slice_index bytes 0 / 32

abbrev pub length_field : List ℕ → ℕ
length_field bytes = half_at bytes 2

-- the bytes begin with a header that a message may have
pub record IsHead (bytes : List ℕ) : Type 0 where
  pub whole : 4 ≤ length bytes
  pub version : version_of bytes ≡ VERSION
  pub least : 4 ≤ length_field bytes
  pub multiple : length_field bytes % 4 ≡ 0

-- one whole message
pub record IsMessage (bytes : List ℕ) : Type 0 where
  pub head : IsHead bytes
  pub exact : length bytes ≡ length_field bytes

abbrev pub AreMessages : List (List ℕ) → Type 0
AreMessages [] = Unit {0}
AreMessages (message ∷ messages) = IsMessage message × AreMessages messages

-- less than a whole message
abbrev pub IsPartial : List ℕ → Type 0
IsPartial bytes = (length bytes < 4) ⊎ (IsHead bytes × (length bytes < length_field bytes))

-- a header that no message may have
abbrev pub IsBad : List ℕ → Type 0
IsBad bytes = (4 ≤ length bytes) × ¬ IsHead bytes

-- no message at the front: the stream is bad there, or less than a message has come
abbrev pub Stops : Bool → List ℕ → Type 0
Stops true bytes = IsBad bytes
Stops false bytes = IsPartial bytes

abbrev pub joined : List (List ℕ) → List ℕ
joined [] = []
joined (piece ∷ pieces) = piece ++ joined pieces

-- the stream is these messages, and behind them less than a message, or a bad header
pub record Splits (stream : List ℕ) (messages : List (List ℕ)) (bad : Bool) (rest : List ℕ) : Type 0 where
  pub all : joined messages ++ rest ≡ stream
  pub each : AreMessages messages
  pub stops : Stops bad rest

-- the frames of a stream are these, and whether it is bad
pub record AreFrames (stream : List ℕ) (messages : List (List ℕ)) (bad : Bool) : Type 0 where
  pub rest : List ℕ
  pub splits : Splits stream messages bad rest

-- the first bytes are these messages
pub record Cuts (bytes : List ℕ) (messages : List (List ℕ)) (at : ℕ) : Type 0 where
  pub within : at ≤ length bytes
  pub all : joined messages ≡ take at bytes
  pub each : AreMessages messages

-- a framer holds the bytes of the next message that have come; after a bad header it keeps them and takes no more
pub record Framing : Type 0 where
  pub held : List ℕ
  pub bad : Bool

abbrev pub FeedsBy : Bool → Framing → List ℕ → List (List ℕ) → Framing → Type 0
FeedsBy true old piece messages new = (messages ≡ []) × (new ≡ old)
FeedsBy false old piece messages new = Splits (old.held ++ piece) messages new.bad new.held

-- one piece more: the messages that it completes
abbrev pub FeedsTo : Framing → List ℕ → List (List ℕ) → Framing → Type 0
FeedsTo old piece messages new = FeedsBy old.bad old piece messages new

-- a framer was fed a stream, and has handed out these messages
pub record HasFed (framing : Framing) (stream : List ℕ) (messages : List (List ℕ)) : Type 0 where
  pub frames : AreFrames stream messages framing.bad
  pub held : framing.bad ≡ false → frames.rest ≡ framing.held

-- For any pieces: one more piece, fed to a framer, gives the messages that the longer stream has more.
abbrev pub FeedsJoin : Type 0
FeedsJoin = (old new : Framing) (stream piece : List ℕ) (messages more : List (List ℕ)) → HasFed old stream messages → FeedsTo old piece more new → HasFed new (stream ++ piece) (messages ++ more)

-- A stream has one list of frames.
abbrev pub AreFramesOnce : Type 0
AreFramesOnce = (stream : List ℕ) (messages others : List (List ℕ)) (bad worse : Bool) → AreFrames stream messages bad → AreFrames stream others worse → (messages ≡ others) × (bad ≡ worse)
