-- The places of a row of a topology: what each is called, and what may stand there.
use Rattle.std.specs.Prelude.{ℕ, ◌-◌, ◌^◌, Bool, is_some, codes, List, [], ◌∷◌}
use Rattle.dom_base.specs.AddrText.{addr_in}
use Rattle.dom_base.specs.Numerals.{colour_in, number_in}
use Rattle.te_links.specs.declared.fault.RowKind.{RowKind}
use Rattle.te_links.specs.declared.fault.RowKind.TheVariants as kinds
use Rattle.network_check.specs.declared.slots.Slot.{Slot}
use Rattle.network_check.specs.declared.slots.Slot.TheVariants as slot

-- ---- rows

-- `topology AS`
abbrev pub header_slots : List Slot
header_slots = slot.Domain ∷ []

-- the places behind the first word of a row
abbrev pub slots_of : RowKind → List Slot
slots_of kinds.Node = slot.Addr ∷ []
slots_of kinds.Link = slot.From ∷ slot.To ∷ slot.Near ∷ slot.Far ∷ slot.Igp ∷ slot.Te ∷ slot.Bandwidth ∷ slot.Colour ∷ []
slots_of kinds.Out = slot.From ∷ slot.Head ∷ slot.Near ∷ slot.Far ∷ slot.Domain ∷ slot.Igp ∷ slot.Te ∷ slot.Bandwidth ∷ slot.Colour ∷ []
slots_of kinds.Entry = slot.Node ∷ slot.Domain ∷ []

-- ---- a place

abbrev pub slot_name : Slot → List ℕ
slot_name slot.Addr = codes "ADDR"
slot_name slot.Node = codes "NODE"
slot_name slot.From = codes "FROM"
slot_name slot.To = codes "TO"
slot_name slot.Head = codes "HEAD"
slot_name slot.Near = codes "NEAR"
slot_name slot.Far = codes "FAR"
slot_name slot.Domain = codes "AS"
slot_name slot.Igp = codes "IGP"
slot_name slot.Te = codes "TE"
slot_name slot.Bandwidth = codes "BW"
slot_name slot.Colour = codes "COLOUR"
slot_name slot.Group = codes "SRLG"

abbrev pub is_address_word : List ℕ → Bool
is_address_word word = is_some (addr_in word)

abbrev pub is_number_word : ℕ → List ℕ → Bool
is_number_word most word = is_some (number_in most word)

-- the word may stand there
abbrev pub is_slot : Slot → List ℕ → Bool
is_slot slot.Addr word = is_address_word word
is_slot slot.Node word = is_address_word word
is_slot slot.From word = is_address_word word
is_slot slot.To word = is_address_word word
is_slot slot.Head word = is_address_word word
is_slot slot.Near word = is_address_word word
is_slot slot.Far word = is_address_word word
is_slot slot.Domain word = is_number_word (2 ^ 16 - 1) word
is_slot slot.Igp word = is_number_word (2 ^ 32 - 1) word
is_slot slot.Te word = is_number_word (2 ^ 32 - 1) word
is_slot slot.Bandwidth word = is_number_word (2 ^ 64 - 1) word
is_slot slot.Colour word = is_some (colour_in word)
is_slot slot.Group word = is_number_word (2 ^ 32 - 1) word

-- what may stand there, in words
abbrev pub slot_allowed : Slot → List ℕ
slot_allowed slot.Addr = codes "an address"
slot_allowed slot.Node = codes "an address"
slot_allowed slot.From = codes "an address"
slot_allowed slot.To = codes "an address"
slot_allowed slot.Head = codes "an address"
slot_allowed slot.Near = codes "an address"
slot_allowed slot.Far = codes "an address"
slot_allowed slot.Domain = codes "a number up to 65535"
slot_allowed slot.Igp = codes "a number up to 4294967295"
slot_allowed slot.Te = codes "a number up to 4294967295"
slot_allowed slot.Bandwidth = codes "a number up to 18446744073709551615"
slot_allowed slot.Colour = codes "8 hexadecimal digits"
slot_allowed slot.Group = codes "a number up to 4294967295"
