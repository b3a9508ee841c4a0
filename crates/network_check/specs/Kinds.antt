-- What the values of settings may be, and what is said of that.
use Rattle.std.specs.Prelude.{ℕ, pos, ◌&&◌, ◌||◌, Bool, true, false, nat_le, is_some, codes, decimal, List, [], ◌∷◌, Option, Some, None}
use Rattle.std.specs.Str.{bytes_eq}
use Rattle.dom_base.specs.declared.addr.Addr.{Addr}
use Rattle.dom_base.specs.declared.addr.Addr.TheVariants.{V4, V6}
use Rattle.dom_base.specs.AddrText.{addr_in}
use Rattle.dom_base.specs.Numerals.{colour_in}
use Rattle.te_links.specs.declared.limits.TheConstants.{SRLGS_MAX}
use Rattle.toml.specs.Data.{Data, integer, array, as_bool, as_str}
use Rattle.plant_text.specs.Rules.{is_name as is_peer_name}
use Rattle.plant_text.specs.SettingsText.{item_count, numbers_in}
use Rattle.network_check.specs.declared.kinds.Kind.{Kind}
use Rattle.network_check.specs.declared.kinds.Kind.TheVariants.{Rows, Whole, Address, Fourth, Flag, Text, Name, Class, Colour, Numbers}

-- a text, and such
abbrev pub is_text : (List ℕ → Bool) → Option (List ℕ) → Bool
is_text test None = false
is_text test (Some text) = test text

abbrev pub is_number : ℕ → ℕ → Data → Bool
is_number least most (integer (pos n)) = nat_le least n && nat_le n most
is_number least most _ = false

abbrev pub is_address : Data → Bool
is_address d = is_text (λ text. is_some (addr_in text)) (as_str d)

abbrev pub is_v4 : Option Addr → Bool
is_v4 (Some (V4 n)) = true
is_v4 (Some (V6 n)) = false
is_v4 None = false

abbrev pub spells_fourth : List ℕ → Bool
spells_fourth text = is_v4 (addr_in text)

abbrev pub is_fourth : Data → Bool
is_fourth d = is_text spells_fourth (as_str d)

abbrev pub is_colour : Data → Bool
is_colour d = is_text (λ text. is_some (colour_in text)) (as_str d)

abbrev pub is_name : Data → Bool
is_name d = is_text is_peer_name (as_str d)

abbrev pub is_class_word : List ℕ → Bool
is_class_word text = bytes_eq text (codes "client") || bytes_eq text (codes "neighbour") || bytes_eq text (codes "parent")

abbrev pub is_class : Data → Bool
is_class d = is_text is_class_word (as_str d)

-- a list of numbers that a link may have as its shared risk groups
abbrev pub are_numbers : Data → Bool
are_numbers (array ds) = nat_le (item_count ds) SRLGS_MAX && is_some (numbers_in ds)
are_numbers d = false

abbrev pub is_kind : Kind → Data → Bool
is_kind Rows d = true
is_kind (Whole least most) d = is_number least most d
is_kind Address d = is_address d
is_kind Fourth d = is_fourth d
is_kind Flag d = is_some (as_bool d)
is_kind Text d = is_some (as_str d)
is_kind Name d = is_name d
is_kind Class d = is_class d
is_kind Colour d = is_colour d
is_kind Numbers d = are_numbers d

-- what a value may be, in words; of a number its bounds are told
abbrev pub allowed : Kind → List ℕ
allowed Rows = codes "rows"
allowed (Whole least most) = []
allowed Address = codes "an address in quotes"
allowed Fourth = codes "an IPv4 address in quotes"
allowed Flag = codes "true or false"
allowed Text = codes "a text in quotes"
allowed Name = codes "1 to 16 letters and digits in quotes, a letter first"
allowed Class = codes "client, neighbour or parent in quotes"
allowed Colour = codes "8 hexadecimal digits in quotes"
allowed Numbers = codes "a list of at most 8 numbers up to 4294967295"

abbrev pub allowed_parts : Kind → List (List ℕ)
allowed_parts (Whole least most) = decimal least ∷ codes " to " ∷ decimal most ∷ []
allowed_parts kind = allowed kind ∷ []
