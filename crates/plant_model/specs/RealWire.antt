-- The wire of PCEP as a codec: its messages, its frames, its refusals and its words.
use Rattle.std.specs.Prelude.{ℕ, Option, Some, None, Result, Ok, Err}
use Rattle.plant_model.specs.Types.{As, Message, Asked, Bad, Wish}
use Rattle.dom_base.specs.Words.{units, word_of}
use Rattle.pcep_codes.specs.declared.errors.TheConstants as errors
use Rattle.pcep_messages.specs.Messages.{message_of}
use Rattle.pcep_messages.specs.Spelling.{message_text}
use Rattle.pcep_messages.specs.Splitting.{split_of}
use Rattle.pcep_messages.specs.Said.{rp_of}
use Rattle.pcep_messages.specs.Refusals.{refusal_of}
use Rattle.pcep_messages.specs.Requests.{without_bit, wish_of}
use Rattle.pcep_framing.specs.Feeding.{feed_of}
use Rattle.plant_model.specs.Wire.{Codec, Checked, Admitted, Wrong}
use Rattle.plant_model.specs.Laws.{IsCodec}

-- ---- messages

abbrev pub message_or_none : Result Message Bad → Option Message
message_or_none (Ok m) = Some m
message_or_none (Err e) = None

-- ---- requests

-- a request without a refusal has an RP, and asks for something
abbrev pub checked : Option (ℕ × ℕ) → Option (ℕ × ℕ) → Option Wish → Checked
checked rp (Some error) wish = Wrong rp error.0 error.1
checked (Some rp) None (Some wish) = Admitted (record { flags = rp.0; id = rp.1; wish = wish })
checked (Some rp) None None = Wrong (Some rp) errors.END_POINTS_MISSING.0 errors.END_POINTS_MISSING.1
checked None None wish = Wrong None errors.RP_MISSING.0 errors.RP_MISSING.1

abbrev pub check_of : Asked → As → Checked
check_of a own = checked (without_bit (rp_of a.objects)) (refusal_of own.0 a.objects) (wish_of own.0 a.objects)

abbrev pub wire : Codec
wire = record {
  text = message_text;
  read = λ bytes. message_or_none (message_of bytes);
  split = split_of;
  feed = feed_of;
  check = check_of;
  word = word_of;
  units = units;
}

-- the wire is such a codec
abbrev pub WireIsCodec : Type 0
WireIsCodec = IsCodec wire
