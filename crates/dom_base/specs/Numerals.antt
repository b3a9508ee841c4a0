-- Words of digits: whole numbers in decimal form, and colours (RFC 3209, 4.7.4, 32 bits of attributes) in hexadecimal form.
use Rattle.std.specs.Prelude.{ℕ, ◌+◌, ◌*◌, ◌/◌, ◌%◌, ◌^◌, ◌==◌, ◌&&◌, Bool, List, [], ◌∷◌, Option, Some, None, length, nat_lt, nat_le, if◌then◌else◌}
use Rattle.std.specs.Char.{digit_value, digit_char}
use Rattle.std.specs.Int.{w32, to_be_bytes}
use Rattle.std.specs.List.{list_all, flat_map}

-- The number that digits mean: each counts for itself times the base to the number of digits behind it.
abbrev pub value : ℕ → List ℕ → ℕ
value base [] = 0
value base (c ∷ digits) = digit_value c * base ^ length digits + value base digits

-- one digit or more of a base, and nothing else; from ten on the digits are letters of either case
abbrev pub is_numeral : ℕ → List ℕ → Bool
is_numeral base word = nat_lt 0 (length word) && list_all (λ c. nat_lt (digit_value c) base) word

-- the number that decimal digits mean, where it is at most `most`
unfoldable pub number_in : ℕ → List ℕ → Option ℕ
number_in most word = if is_numeral 10 word && nat_le (value 10 word) most then Some (value 10 word) else None

-- the colour that eight hexadecimal digits mean
unfoldable pub colour_in : List ℕ → Option ℕ
colour_in word = if is_numeral 16 word && (length word == 8) then Some (value 16 word) else None

-- octets in hexadecimal digits, two each, letters in lower case
abbrev pub hex_text : List ℕ → List ℕ
hex_text octets = flat_map (λ b. digit_char (b / 16) ∷ digit_char (b % 16) ∷ []) octets

-- the eight digits of a colour
unfoldable pub colour_text : ℕ → List ℕ
colour_text colour = hex_text (to_be_bytes w32 colour)
