-- A piece of a stream that is fed to a framer, as a function.
use Rattle.std.specs.Prelude.{◌≡◌, ◌↔◌, ℕ, zero, suc, ◌+◌, ◌%◌, ◌==◌, ◌&&◌, not, Bool, true, false, nat_lt, nat_le, List, [], ◌∷◌, ◌++◌, length, take, drop, if◌then◌else◌}
use Rattle.pcep_codes.specs.declared.TheConstants.{VERSION}
use Rattle.pcep_framing.specs.Frames.{Framing, FeedsTo, version_of, length_field}

-- the messages that a piece completes, and the framer after it
pub record Progress : Type 0 where
  pub frames : List (List ℕ)
  pub framing : Framing

-- the first four bytes are a header that a message may have
abbrev pub is_head : List ℕ → Bool
is_head bytes = (version_of bytes == VERSION) && (nat_le 4 (length_field bytes) && (length_field bytes % 4 == 0))

abbrev pub stopped : Bool → List ℕ → Progress
stopped bad bytes = record { frames = []; framing = record { held = bytes; bad = bad } }

abbrev pub with_frame : List ℕ → Progress → Progress
with_frame frame progress = record progress { frames = frame ∷ progress.frames }

-- the messages at the front; one has at least four bytes, so as many steps as there are bytes are enough
abbrev pub cut_by : ℕ → List ℕ → Progress
cut_by zero bytes = stopped false bytes
cut_by (suc steps) bytes =
    if nat_lt (length bytes) 4 then stopped false bytes
    else (if not (is_head bytes) then stopped true bytes
    else (if nat_lt (length bytes) (length_field bytes) then stopped false bytes
    else with_frame (take (length_field bytes) bytes) (cut_by steps (drop (length_field bytes) bytes))))

-- a framer that is bad stays as it is
abbrev pub feed_of : Framing → List ℕ → Progress
feed_of framing piece =
    if framing.bad then record { frames = []; framing = framing } else cut_by (length framing.held + length piece) (framing.held ++ piece)

-- A piece leads to the result of the function, and to nothing else.
abbrev pub FeedsAsSaid : Type 0
FeedsAsSaid = (framing new : Framing) (piece : List ℕ) (frames : List (List ℕ)) →
    FeedsTo framing piece frames new ↔ ((frames ≡ (feed_of framing piece).frames) × (new ≡ (feed_of framing piece).framing))
