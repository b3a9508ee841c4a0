-- What a network takes from the wire: the text of a message and its reading, frames, refusals and words.
use Rattle.std.specs.Prelude.{ℕ, List, Option}
use Rattle.plant_model.specs.Types.{As, Message, Asked, Request}
use Rattle.pcep_framing.specs.Frames.{Framing}
use Rattle.pcep_framing.specs.Feeding.{Progress}

abbrev pub Bytes : Type 0
Bytes = List ℕ

-- A request admitted, or its first refusal: the RP, where there is one, and the error's type and value.
pub data Checked : Type 0 where
  Admitted : Request → Checked
  Wrong : (rp : Option (ℕ × ℕ)) → (kind value : ℕ) → Checked

pub record Codec : Type 0 where
  pub text : Message → Bytes
  pub read : Bytes → Option Message
  -- one message per request or reply
  pub split : Bytes → List Bytes
  -- a piece of a stream
  pub feed : Framing → Bytes → Progress
  -- a request at the element of a domain
  pub check : Asked → As → Checked
  -- the word of a cost, and the whole number of a word, rounded up
  pub word : ℕ → ℕ
  pub units : ℕ → Option ℕ
