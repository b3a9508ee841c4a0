-- What is told of a topology whose text is outside the form: each line that is, with the first word of it that may not stand at its place.
use Rattle.std.specs.Prelude.{◌≡◌, ℕ, Bool, true, false, is_some, codes, List, [], ◌∷◌, ◌++◌, Option, Some, None, Err, if◌then◌else◌}
use Rattle.dom_base.specs.Steps.{◌>>=◌}
use Rattle.line_text.specs.Lines.{NumberedLine}
use Rattle.line_text.specs.Words.{all_words, is_trimmed, words_of}
use Rattle.te_links.specs.declared.fault.RowKind.{RowKind}
use Rattle.te_links.specs.declared.fault.RowKind.TheVariants as kinds
use Rattle.te_links.specs.declared.fault.TopoFault.TheVariants as topo
use Rattle.te_text.specs.declared.error.TextError.{TextError}
use Rattle.te_text.specs.Reading.{begins_topology, header_own, text_in}
use Rattle.te_text.specs.RowText.{kind_in, row_in}
use Rattle.plant_text.specs.declared.fault.NetFault.{NetFault}
use Rattle.plant_text.specs.declared.fault.NetFault.TheVariants as fault
use Rattle.network_check.specs.declared.slots.Slot.{Slot}
use Rattle.network_check.specs.declared.slots.Slot.TheVariants.{Group}
use Rattle.network_check.specs.Slots.{header_slots, is_slot, slot_allowed, slot_name, slots_of}
use Rattle.network_check.specs.Told.{joined, shown, told}

-- the text is outside the form of a topology
abbrev pub IsMalformed : List ℕ → Type 0
IsMalformed text = (why : TextError) × (text_in text ≡ Err why)

-- a fault of the form, and of no row
abbrev pub is_form_fault : NetFault → Bool
is_form_fault (fault.Topo topo.Syntax) = true
is_form_fault (fault.Topo topo.NoHeader) = true
is_form_fault other = false

-- ---- words

abbrev pub wrong_text : List ℕ → ℕ → Slot → List ℕ → List ℕ
wrong_text file line s word = told file line (joined (codes "syntax: " ∷ slot_name s ∷ codes " is not " ∷ slot_allowed s ∷ codes ": " ∷ shown word ∷ []))

abbrev pub missing_text : List ℕ → ℕ → Slot → List ℕ
missing_text file line s = told file line (joined (codes "syntax: " ∷ slot_name s ∷ codes " is missing: " ∷ slot_allowed s ∷ []))

abbrev pub extra_text : List ℕ → ℕ → List ℕ → List ℕ
extra_text file line word = told file line (joined (codes "syntax: a word too many: " ∷ shown word ∷ []))

abbrev pub plain_text : List ℕ → ℕ → List ℕ
plain_text file line = told file line (joined (codes "syntax" ∷ []))

-- Behind the places of a row stand the numbers of groups, where it may have them, and nothing else.
abbrev pub rest_text : List ℕ → ℕ → Bool → List (List ℕ) → List ℕ
rest_text file line has_groups [] = plain_text file line
rest_text file line true (word ∷ words) = if is_slot Group word then rest_text file line true words else wrong_text file line Group word
rest_text file line false (word ∷ words) = extra_text file line word

-- the first word that may not stand at its place; else the first place that has none
abbrev pub slots_text : List ℕ → ℕ → Bool → List Slot → List (List ℕ) → List ℕ
slots_text file line has_groups [] words = rest_text file line has_groups words
slots_text file line has_groups (s ∷ ss) [] = missing_text file line s
slots_text file line has_groups (s ∷ ss) (word ∷ words) = if is_slot s word then slots_text file line has_groups ss words else wrong_text file line s word

abbrev pub blank_text : List ℕ → ℕ → List ℕ
blank_text file line = told file line (joined (codes "syntax: a blank before the first word or behind the last" ∷ []))

-- ---- rows

abbrev pub has_groups : RowKind → Bool
has_groups kinds.Node = false
has_groups kinds.Link = true
has_groups kinds.Out = true
has_groups kinds.Entry = false

abbrev pub kind_text : List ℕ → ℕ → List ℕ → List (List ℕ) → Option RowKind → List ℕ
kind_text file line word words None = told file line (joined (codes "syntax: not node, link, out or entry: " ∷ shown word ∷ []))
kind_text file line word words (Some kind) = slots_text file line (has_groups kind) (slots_of kind) words

abbrev pub words_text : List ℕ → ℕ → List (List ℕ) → List ℕ
words_text file line [] = plain_text file line
words_text file line (word ∷ words) = kind_text file line word words (kind_in word)

-- the line says no row
abbrev pub is_row : List ℕ → Bool
is_row text = is_some (words_of text >>= row_in)

abbrev pub row_text : List ℕ → NumberedLine → List ℕ
row_text file line =
    if is_row line.text then []
    else (if is_trimmed line.text then words_text file line.number (all_words line.text) else blank_text file line.number)

abbrev pub rows_text : List ℕ → List NumberedLine → List ℕ
rows_text file [] = []
rows_text file (line ∷ lines) = row_text file line ++ rows_text file lines

-- ---- the header, and the whole

abbrev pub is_header : List ℕ → Bool
is_header text = is_some (words_of text >>= header_own)

abbrev pub behind_first : List (List ℕ) → List (List ℕ)
behind_first [] = []
behind_first (word ∷ words) = words

-- it begins with `topology`, and says no domain
abbrev pub own_text : List ℕ → NumberedLine → List ℕ
own_text file line = if is_trimmed line.text then slots_text file line.number false header_slots (behind_first (all_words line.text)) else blank_text file line.number

abbrev pub no_header_text : List ℕ → ℕ → List ℕ
no_header_text file line = told file line (joined (codes "no header: not topology AS" ∷ []))

abbrev pub header_text : List ℕ → NumberedLine → List ℕ
header_text file line =
    if begins_topology (all_words line.text) then (if is_header line.text then [] else own_text file line)
    else no_header_text file line.number

-- the header is the first line that tells anything; 1 where none does
abbrev pub form_text : List ℕ → List NumberedLine → List ℕ
form_text file [] = no_header_text file 1
form_text file (line ∷ lines) = header_text file line ++ rows_text file lines
