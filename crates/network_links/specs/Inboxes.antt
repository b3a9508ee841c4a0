-- What a piece of a peer's stream brings to an inbox.
use Rattle.std.specs.Prelude.{ℕ, List, [], ◌∷◌, ◌++◌, Option, Some, None, slice_index}
use Rattle.pcep_framing.specs.Frames.{Framing}
use Rattle.pcep_framing.specs.Feeding.{feed_of}
use Rattle.plant_model.specs.Wire.{Bytes}
use Rattle.plant_model.specs.RealWire.{wire}
use Rattle.plant_model.specs.Events.{split_all, bad_item}

abbrev pub brings : Bytes → Framing → List (Option Bytes)
brings piece from = split_all wire (feed_of from piece).frames ++ bad_item (feed_of from piece).framing.bad

-- The type of the first message (RFC 5440, section 6.1); a bad header has none.
abbrev pub first_type : List (Option Bytes) → Option ℕ
first_type [] = None
first_type (None ∷ items) = None
first_type (Some message ∷ items) = Some (slice_index message 1)
