-- Bytes as hexadecimal text: two digits a byte.
use Rattle.std.specs.Prelude.{◌+◌, ◌-◌, ◌*◌, ◌/◌, ◌%◌, ℕ, Bool, ◌==◌, ◌||◌, ◌&&◌, nat_le, List, [], ◌∷◌, None, Some, if◌then◌else◌}
use Rattle.std.specs.declared.option.Option.{Option}
use Rattle.std.specs.Option.{option_map}
use Rattle.std.specs.List.{flat_map}

-- space, line feed and carriage return
abbrev pub is_blank : ℕ → Bool
is_blank c = c == 32 || (c == 10 || c == 13)

-- the value of a digit of either case
abbrev pub hex_digit : ℕ → Option ℕ
hex_digit c =
    if nat_le 48 c && nat_le c 57 then Some (c - 48)
    else (if nat_le 97 c && nat_le c 102 then Some (c - 87)
    else (if nat_le 65 c && nat_le c 70 then Some (c - 55) else None))

-- the value of two digits
abbrev pub hex_pair : ℕ → ℕ → Option ℕ
hex_pair c d = pair (hex_digit c) (hex_digit d)
  where
    pair : Option ℕ → Option ℕ → Option ℕ
    pair (Some x) (Some y) = Some (16 * x + y)
    pair (Some x) None = None
    pair None y = None

-- a byte in front of others
abbrev pub with_byte : Option ℕ → Option (List ℕ) → Option (List ℕ)
with_byte None rest = None
with_byte (Some b) rest = option_map (λ bs. b ∷ bs) rest

-- the bytes that a text of pairs of digits means; blanks stand before, behind and between the pairs
abbrev pub hex_bytes : List ℕ → Option (List ℕ)
hex_bytes [] = Some []
hex_bytes (c ∷ []) = if is_blank c then Some [] else None
hex_bytes (c ∷ (d ∷ ds)) = if is_blank c then hex_bytes (d ∷ ds) else with_byte (hex_pair c d) (hex_bytes ds)

-- a digit in lower case
abbrev pub digit_text : ℕ → ℕ
digit_text x = if nat_le x 9 then x + 48 else x + 87

abbrev pub hex_text : List ℕ → List ℕ
hex_text bytes = flat_map (λ b. digit_text (b / 16) ∷ digit_text (b % 16) ∷ []) bytes
