-- What is told of the keys of rows: which lack, which are not known, and which have a value that they may not have.
use Rattle.std.specs.Prelude.{ℕ, pos, ◌+◌, Bool, List, [], ◌∷◌, ◌++◌, codes, decimal, Option, Some, None, if◌then◌else◌}
use Rattle.std.specs.List.{list_any}
use Rattle.std.specs.Str.{bytes_eq}
use Rattle.dom_base.specs.Steps.{◌>>=◌}
use Rattle.toml.specs.Data.{Data, Items, no_items, item, Members, integer, array, as_str, as_table, get, get_member}
use Rattle.plant_text.specs.SettingsText.{names}
use Rattle.network_check.specs.declared.kinds.Kind.{Kind}
use Rattle.network_check.specs.declared.sections.Section.{Section}
use Rattle.network_check.specs.declared.sections.Section.TheVariants.{Links, Peers}
use Rattle.network_check.specs.Kinds.{allowed_parts, is_kind}
use Rattle.network_check.specs.Places.{top_line}
use Rattle.network_check.specs.Pairs.{ends_text, pairs_text}
use Rattle.network_check.specs.Sections.{Column, called, columns_of}
use Rattle.network_check.specs.Stands.{Stand, line_of_row, line_of_key, stand}
use Rattle.network_check.specs.Told.{joined, shown, told}

-- ---- the keys of a row

abbrev pub kind_text : Stand → ℕ → List ℕ → List ℕ → Kind → List ℕ
kind_text s line what key kind = told s.file line (joined (s.label ∷ codes ": " ∷ key ∷ what ∷ allowed_parts kind))

-- the value is of the kind, or it is told what it may be
abbrev pub value_text : Stand → Column → Data → List ℕ
value_text s c d = if is_kind c.kind d then [] else kind_text s (line_of_key s c.key) (codes " is not ") c.key c.kind

abbrev pub lack_text : Stand → Column → List ℕ
lack_text s c = if c.needed then kind_text s (line_of_row s) (codes " is missing: ") c.key c.kind else []

abbrev pub found_text : Stand → Column → Option Data → List ℕ
found_text s c (Some d) = value_text s c d
found_text s c None = lack_text s c

abbrev pub field_text : Stand → Members → Column → List ℕ
field_text s ms c = found_text s c (get_member c.key ms)

abbrev pub columns_text : Stand → Members → List Column → List ℕ
columns_text s ms [] = []
columns_text s ms (c ∷ cs) = field_text s ms c ++ columns_text s ms cs

-- a key that a row may have
abbrev pub is_column : List Column → List ℕ → Bool
is_column cs key = list_any (λ (c : Column). bytes_eq key c.key) cs

abbrev pub strange_text : Stand → List ℕ → List ℕ
strange_text s key =
    if is_column (columns_of s.section) key then [] else told s.file (line_of_key s key) (joined (s.label ∷ codes ": " ∷ shown key ∷ codes " is no key there" ∷ []))

-- each key that is none of those, in the order of their bytes
abbrev pub unknown_text : Stand → List (List ℕ) → List ℕ
unknown_text s [] = []
unknown_text s (key ∷ keys) = strange_text s key ++ unknown_text s keys

-- keys that do not go together
abbrev pub together_text : Section → Stand → Members → List ℕ
together_text Links s ms = ends_text s ms
together_text Peers s ms = pairs_text s ms
together_text other s ms = []

abbrev pub row_text : Stand → Members → List ℕ
row_text s ms = columns_text s ms (columns_of s.section) ++ (unknown_text s (names ms) ++ together_text s.section s ms)

-- ---- the rows of a table

-- the name of a row that has one; the number of its domain
abbrev pub name_in : Data → Option (List ℕ)
name_in d = get (codes "name") d >>= as_str

abbrev pub whole : Data → Option ℕ
whole (integer (pos n)) = Some n
whole other = None

abbrev pub domain_in : Data → Option ℕ
domain_in d = get (codes "as") d >>= whole

-- what a row is called: its table, and its name or the number of its domain, where it has one
abbrev pub domain_label : List ℕ → Option ℕ → List ℕ
domain_label table None = table
domain_label table (Some n) = joined (table ∷ codes " of domain " ∷ decimal n ∷ [])

abbrev pub row_label : List ℕ → Option (List ℕ) → Option ℕ → List ℕ
row_label table None domain = domain_label table domain
row_label table (Some name) domain = joined (table ∷ codes " " ∷ shown name ∷ [])

abbrev pub label_of : List ℕ → Data → List ℕ
label_of table d = row_label table (name_in d) (domain_in d)

abbrev pub labelled_text : Stand → Option Members → List ℕ
labelled_text s (Some ms) = row_text s ms
labelled_text s None = told s.file (line_of_row s) (joined (s.label ∷ codes ": is no table" ∷ []))

abbrev pub member_text : List ℕ → List ℕ → Section → ℕ → Data → List ℕ
member_text file text section i d = labelled_text (stand file text section i (label_of (called section) d)) (as_table d)

abbrev pub items_text : List ℕ → List ℕ → Section → ℕ → Items → List ℕ
items_text file text section i no_items = []
items_text file text section i (item d ds) = member_text file text section i d ++ items_text file text section (i + 1) ds

abbrev pub rows_text : List ℕ → List ℕ → Section → Option Data → List ℕ
rows_text file text section None = []
rows_text file text section (Some (array ds)) = items_text file text section 0 ds
rows_text file text section (Some d) = told file (top_line text (called section)) (joined (called section ∷ codes ": is no list of tables" ∷ []))
