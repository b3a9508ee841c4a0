-- Addresses as text: an IPv4 address as four decimal numbers with dots between them, an IPv6 address as eight groups of
-- hexadecimal digits with colons between them (RFC 4291, 2.2, form 1).
use Rattle.std.specs.Prelude.{ℕ, ◌+◌, ◌*◌, ◌/◌, ◌%◌, ◌^◌, ◌==◌, ◌&&◌, List, [], ◌∷◌, ◌++◌, Option, Some, None, length, map, nat_le, if◌then◌else◌, decimal}
use Rattle.std.specs.Int.{w16, w32, to_be_bytes}
use Rattle.std.specs.List.{slice_split, join_with_byte, list_any}
use Rattle.dom_base.specs.declared.addr.Addr.{Addr}
use Rattle.dom_base.specs.declared.addr.Addr.TheVariants.{V4, V6}
use Rattle.dom_base.specs.Numerals.{number_in, is_numeral, value, hex_text}
use Rattle.dom_base.specs.Parts.{word_at}
use Rattle.dom_base.specs.Steps.{◌>>=◌}

abbrev pub dot : ℕ
dot = 46

abbrev pub colon : ℕ
colon = 58

-- ---- IPv4

-- a number up to 255 in one to three digits
unfoldable pub octet_in : List ℕ → Option ℕ
octet_in word = if nat_le (length word) 3 then number_in 255 word else None

-- exactly four octets make an address, the highest first
abbrev pub addr_of_octets : List (List ℕ) → Option Addr
addr_of_octets (a ∷ b ∷ c ∷ d ∷ []) = do
  first ← octet_in a
  second ← octet_in b
  third ← octet_in c
  fourth ← octet_in d
  Some (V4 (word_at (first ∷ second ∷ third ∷ fourth ∷ []) 0))
addr_of_octets _ = None

-- ---- IPv6

-- one to four hexadecimal digits of either case
unfoldable pub group_in : List ℕ → Option ℕ
group_in word = if nat_le (length word) 4 && is_numeral 16 word then Some (value 16 word) else None

-- the number that groups of 16 bits mean, the highest first, behind those that came before
abbrev pub number_of_groups : ℕ → List ℕ → ℕ
number_of_groups before [] = before
number_of_groups before (group ∷ groups) = number_of_groups (before * 2 ^ 16 + group) groups

-- exactly eight groups make an address, the highest first
abbrev pub addr_of_groups : List (List ℕ) → Option Addr
addr_of_groups (a ∷ b ∷ c ∷ d ∷ e ∷ f ∷ g ∷ h ∷ []) = do
  first ← group_in a
  second ← group_in b
  third ← group_in c
  fourth ← group_in d
  fifth ← group_in e
  sixth ← group_in f
  seventh ← group_in g
  eighth ← group_in h
  Some (V6 (number_of_groups 0 (first ∷ second ∷ third ∷ fourth ∷ fifth ∷ sixth ∷ seventh ∷ eighth ∷ [])))
addr_of_groups _ = None

-- ---- both

-- The address that a word means. With a colon in the word, the parts between its colons are the groups of an IPv6 address; else the parts
-- between its dots are the octets of an IPv4 address.
unfoldable pub addr_in : List ℕ → Option Addr
addr_in word = if list_any (λ c. c == colon) word
    then addr_of_groups (slice_split (λ c. c == colon) word)
    else addr_of_octets (slice_split (λ c. c == dot) word)

-- the four groups of 64 bits, the highest first
abbrev pub four_groups : ℕ → List ℕ
four_groups n = n / 2 ^ 48 % 2 ^ 16 ∷ n / 2 ^ 32 % 2 ^ 16 ∷ n / 2 ^ 16 % 2 ^ 16 ∷ n % 2 ^ 16 ∷ []

-- the eight groups of 128 bits
abbrev pub groups_of : ℕ → List ℕ
groups_of n = four_groups (n / 2 ^ 64) ++ four_groups (n % 2 ^ 64)

-- the four digits of a group, letters in lower case
abbrev pub group_text : ℕ → List ℕ
group_text group = hex_text (to_be_bytes w16 group)

-- the text of an address
unfoldable pub addr_text : Addr → List ℕ
addr_text (V4 n) = join_with_byte dot (map decimal (to_be_bytes w32 n))
addr_text (V6 n) = join_with_byte colon (map group_text (groups_of n))
