-- What bodies are made of: so many octets, TLVs behind a fixed part, subobjects, and flags in an octet.
use Rattle.std.specs.Prelude.{◌≡◌, ℕ, ◌/◌, ◌%◌, ◌^◌, ◌<◌, Bool, false, List, length, drop, Option, Some, None, Result, Ok, Err, nat_le, ◌==◌, if◌then◌else◌}
use Rattle.dom_base.specs.Words.{is_malformed}
use Rattle.pcep_subobjects.specs.declared.hop.HopFault.{HopFault}
use Rattle.pcep_objects.specs.declared.object.Body.{Body}
use Rattle.pcep_objects.specs.declared.object.TlvFault.{TlvFault}
use Rattle.pcep_objects.specs.declared.object.TlvFault.TheVariants.{PastEnd}
use Rattle.pcep_objects.specs.Tlvs.{tlvs_of, word_among}

-- a body of just so many octets, in which nothing is malformed
abbrev pub of_length : ℕ → List ℕ → Bool → Body → Option Body
of_length len content malformed body = if malformed then None else (if length content == len then Some body else None)

-- what the TLVs behind so many octets say: the number in the first of a type that has four octets
abbrev pub word_behind : ℕ → List ℕ → ℕ → Result (Option ℕ) TlvFault
word_behind len content kind = if nat_le len (length content) then word_among kind (tlvs_of (drop len content)) else Err PastEnd

-- a body with TLVs behind it
abbrev pub with_tlvs : Result (Option ℕ) TlvFault → (Option ℕ → Body) → Option Body
with_tlvs (Ok word) body = Some (body word)
with_tlvs (Err e) body = None

-- a body of subobjects
abbrev pub of_parts : {X : Type 0} → (List X → Body) → Result (List X) HopFault → Option Body
of_parts body (Ok xs) = Some (body xs)
of_parts body (Err e) = None

-- a flag of an octet is set
abbrev pub has_flag : ℕ → ℕ → Bool
has_flag octet value = octet / value % 2 == 1

-- a flag as it is written
abbrev pub flag : Bool → ℕ → ℕ
flag set value = if set then value else 0

-- a word of single precision that means something
abbrev pub IsWord : ℕ → Type 0
IsWord word = (is_malformed word ≡ false) × (word < 2 ^ 32)
