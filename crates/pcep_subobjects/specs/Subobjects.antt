-- What every subobject of a route or of an exclusion begins with: a bit, a type of seven bits and the length in octets
-- (RFC 3209, 4.3.3; RFC 5521, 2.1).
use Rattle.std.specs.Prelude.{◌≡◌, ◌≤◌, ◌<◌, ℕ, ◌+◌, ◌-◌, ◌%◌, Bool, false, List, [], ◌∷◌, length, take, Option, SomeIff, Result, Ok, Err, IsOk, All, nat_lt, nat_le, ◌==◌, if◌then◌else◌}
use Rattle.dom_base.specs.Parts.{Reader}
use Rattle.pcep_subobjects.specs.declared.hop.HopFault.{HopFault}
use Rattle.pcep_subobjects.specs.declared.hop.HopFault.TheVariants as faults

-- a length that a subobject of an unknown type may have
abbrev pub is_whole_words : ℕ → Bool
is_whole_words len = if len % 4 == 0 then nat_le 4 len else false

-- The subobject at the front: what its bit, its type and the octets behind its length say. It is short where the bytes
-- end inside it, and else its length has to be one of its type's.
abbrev pub subobject_at : {X : Type 0} → (ℕ → ℕ → Bool) → (Bool → ℕ → List ℕ → X) → Reader X HopFault
subobject_at has_length meaning [] = Err faults.Short
subobject_at has_length meaning (first ∷ []) = Err faults.Short
subobject_at has_length meaning (first ∷ len ∷ bytes) =
    if nat_lt (length bytes + 2) len then Err faults.Short
    else (if has_length (first % 128) len then Ok (meaning (nat_le 128 first) (first % 128) (take (len - 2) bytes), len)
    else Err faults.BadLength)

-- the octet of the bit and the type
abbrev pub first_octet : Bool → ℕ → ℕ
first_octet bit kind = (if bit then 128 else 0) + kind

-- numbers that are octets
abbrev pub AreOctets : List ℕ → Type 0
AreOctets bytes = All (λ (b : ℕ). b < 256) bytes

-- a type of seven bits, and octets behind the length that end a subobject of whole words of at most 252 octets
abbrev pub HasOctets : ℕ → List ℕ → Type 0
HasOctets kind body = (kind < 128) × (2 ≤ length body) × (length body ≤ 250) × ((length body + 2) % 4 ≡ 0) × AreOctets body

-- A call answered what is read. It answers "out of memory" only where there is no fault.
abbrev pub Gives : {X : Type 0} → Result X HopFault → Result X HopFault → Type 0
Gives (Ok x) read = read ≡ Ok x
Gives (Err faults.NoMemory) read = IsOk read
Gives (Err f) read = read ≡ Err f

-- How many octets of a room are left behind a text: None exactly where the text is longer than the room.
abbrev pub IsLeftBehind : List ℕ → ℕ → Option ℕ → Type 0
IsLeftBehind text room left = SomeIff left (length text ≤ room) (room - length text)
