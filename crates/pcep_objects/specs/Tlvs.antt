-- What may stand behind the fixed part of a body: a type and a length of two octets each, and a value of that length
-- that is padded to whole words (RFC 5440, 7.1).
use Rattle.std.specs.Prelude.{◌≡◌, ℕ, ◌+◌, ◌*◌, ◌/◌, List, [], ◌∷◌, ◌++◌, length, take, drop, Option, Some, None, Result, Ok, Err, ◌&&◌, nat_lt, ◌==◌, if◌then◌else◌}
use Rattle.std.specs.Borrow.{Bor}
use Rattle.std.specs.Int.{w16, w32, to_be_bytes}
use Rattle.std.specs.Option.{option_or}
use Rattle.dom_base.specs.Parts.{Reader, half_at, word_at, parts}
use Rattle.pcep_objects.specs.declared.object.TlvFault.{TlvFault}
use Rattle.pcep_objects.specs.declared.object.TlvFault.TheVariants.{PastEnd}

pub record Tlv : Type 0 where
  pub kind : ℕ
  pub value : List ℕ

-- the octets of a TLV whose value has this length
abbrev pub padded : ℕ → ℕ
padded len = 4 + (len + 3) / 4 * 4

abbrev pub tlv_at : Reader Tlv TlvFault
tlv_at bytes =
    if nat_lt (length bytes) 4 then Err (λ _. PastEnd)
    else (if nat_lt (length bytes) (padded (half_at bytes 2)) then Err (λ _. PastEnd)
    else Ok (record { kind = half_at bytes 0; value = take (half_at bytes 2) (drop 4 bytes) }, padded (half_at bytes 2)))

abbrev pub tlvs_of : List ℕ → Result (List Tlv) TlvFault
tlvs_of bytes = parts tlv_at bytes

-- the number in a TLV of a type that has four octets
abbrev pub word_here : ℕ → Tlv → Option ℕ
word_here kind t = if (t.kind == kind) && (length t.value == 4) then Some (word_at t.value 0) else None

-- the number in the first one
abbrev pub first_word : ℕ → List Tlv → Option ℕ
first_word kind [] = None
first_word kind (t ∷ ts) = option_or (word_here kind t) (first_word kind ts)

abbrev pub word_among : ℕ → Result (List Tlv) TlvFault → Result (Option ℕ) TlvFault
word_among kind (Ok ts) = Ok (first_word kind ts)
word_among kind (Err e) = Err e

-- a TLV of one word, as it is written
abbrev pub tlv_text : ℕ → ℕ → List ℕ
tlv_text kind word = to_be_bytes w16 kind ++ 0 ∷ 4 ∷ to_be_bytes w32 word

-- What a call answered is the TLV that is read.
abbrev pub GivesTlv : Result (ℕ × Bor (List ℕ) × ℕ) TlvFault → Result (Tlv × ℕ) (ℕ → TlvFault) → Type 0
GivesTlv (Ok x) read = read ≡ Ok (record { kind = x.0; value = x.1.now }, x.2)
GivesTlv (Err e) read = read ≡ Err (λ _. PastEnd)
