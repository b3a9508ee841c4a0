-- What is told of rows that break a rule about the rows beside them. A row counts by those of its keys that can be read, whatever else is wrong with it.
use Rattle.std.specs.Prelude.{ℕ, ◌==◌, ◌&&◌, ◌||◌, Bool, false, not, nat_lt, is_some, List, [], ◌∷◌, ◌++◌, length, take, codes, Option, Some, None, if◌then◌else◌}
use Rattle.std.specs.List.{list_all, list_any}
use Rattle.std.specs.Str.{bytes_eq}
use Rattle.dom_base.specs.declared.names.As.{As}
use Rattle.dom_base.specs.Steps.{◌>>=◌}
use Rattle.toml.specs.Data.{Data, Items, no_items, item, Members, as_array, as_table, get, get_member}
use Rattle.plant_text.specs.declared.fault.NetFault.{NetFault}
use Rattle.plant_text.specs.declared.fault.NetFault.TheVariants as fault
use Rattle.plant_text.specs.declared.limits.TheConstants.{DENY_MAX, ELEMENTS_MAX, LINKS_MAX, PARENT_LINKS_MAX, PEERS_MAX}
use Rattle.plant_text.specs.Names.{same_as}
use Rattle.plant_text.specs.SettingsText.{as_of, is_table, needed}
use Rattle.toml.specs.View.{table_view}
use Rattle.network_check.specs.declared.clashes.Broken.{Broken}
use Rattle.network_check.specs.declared.clashes.Clash.{Clash}
use Rattle.network_check.specs.declared.clashes.Clash.TheVariants as clash
use Rattle.network_check.specs.declared.sections.Section.{Section}
use Rattle.network_check.specs.declared.sections.Section.TheVariants.{Elements, Links, Peers, Denials, Parent, ParentLinks}
use Rattle.network_check.specs.Faulty.{row_fault, too_many_text}
use Rattle.network_check.specs.Keys.{agree, has_yes, meet, same_address, same_domain, same_text, way_of}
use Rattle.network_check.specs.Sections.{called}

-- ---- rows

abbrev pub listed : Items → List Data
listed no_items = []
listed (item d ds) = d ∷ listed ds

abbrev pub all_of : Option Items → List Data
all_of None = []
all_of (Some ds) = listed ds

abbrev pub rows_in : Option Data → List Data
rows_in value = all_of (value >>= as_array)

-- a row that is a table, and such a one
abbrev pub is_such : (Members → Bool) → Option Members → Bool
is_such test None = false
is_such test (Some ms) = test ms

abbrev pub has_row : (Members → Bool) → List Data → Bool
has_row test rows = list_any (λ d. is_such test (as_table d)) rows

-- ---- a row repeats what another says

-- both join the same domains
abbrev pub same_ends : Members → Members → Bool
same_ends a b = (same_domain (codes "a") a b && same_domain (codes "b") a b) || (meet (codes "a") a (codes "b") b && meet (codes "b") a (codes "a") b)

-- paths of one element go on to one domain
abbrev pub same_way : Members → Members → Bool
same_way a b = same_domain (codes "as") a b && agree same_as (way_of a) (way_of b)

-- of the parent: an element has its id
abbrev pub is_like : Section → Members → Members → Bool
is_like Elements a b = same_domain (codes "as") a b || same_address (codes "id") a b
is_like Links a b = same_ends a b
is_like Peers a b = same_text (codes "name") a b || same_way a b
is_like Parent a b = same_address (codes "id") a b
is_like ParentLinks a b = same_address (codes "near") a b || same_address (codes "far") a b
is_like other a b = false

-- ---- a row names domains

abbrev pub is_own : As → Members → Bool
is_own a ms = agree same_as (needed as_of (codes "as") ms) (Some a)

abbrev pub is_element : List Data → Option As → Bool
is_element elements None = false
is_element elements (Some a) = has_row (is_own a) elements

abbrev pub knows_domain : Members → Bool
knows_domain ms = is_some (needed as_of (codes "as") ms)

-- every element's domain can be read
abbrev pub are_known : List Data → Bool
are_known elements = list_all (λ d. is_such knows_domain (as_table d)) elements

-- the domain at a key, and it is no element's: which can't be told as long as an element's is not known
abbrev pub is_nobody : List Data → List ℕ → Members → Bool
is_nobody elements key ms = is_some (needed as_of key ms) && are_known elements && not (is_element elements (needed as_of key ms))

-- ---- what is wrong with a row

-- it repeats an earlier row, or leads paths to a domain that is an element's
abbrev pub repeats : Section → List Data → List Data → Members → Bool
repeats Peers elements before ms = has_row (λ a. is_like Peers a ms) before || is_element elements (way_of ms)
repeats section elements before ms = has_row (λ a. is_like section a ms) before

abbrev pub names_nobody : Section → List Data → Members → Bool
names_nobody Links elements ms = is_nobody elements (codes "a") ms || is_nobody elements (codes "b") ms
names_nobody Peers elements ms = is_nobody elements (codes "as") ms
names_nobody Denials elements ms = is_nobody elements (codes "at") ms
names_nobody other elements ms = false

abbrev pub lacks_parent : Section → Members → Members → Bool
lacks_parent Elements root ms = has_yes (codes "parent") ms && not (is_table (get_member (codes "parent") root))
lacks_parent other root ms = false

-- ---- what is told of it

-- settings that break a rule: the file and its text, its document, and the first rule that is broken, which is told before
pub record Case : Type 0 where
  pub file : List ℕ
  pub text : List ℕ
  pub root : Members
  pub first : NetFault

abbrev pub broken : List ℕ → List ℕ → Members → NetFault → Case
broken file text root first = record { file = file; text = text; root = root; first = first }

abbrev pub broken_of : Broken → Case
broken_of b = broken b.page.file.now b.page.text.now (table_view b.root.now) b.first.now

abbrev pub elements_of : Members → List Data
elements_of root = rows_in (get_member (codes "element") root)

-- the links that the parent knows
abbrev pub parent_links_of : Members → List Data
parent_links_of root = rows_in (get_member (codes "parent") root >>= get (codes "link"))

abbrev pub clash_words : Clash → List ℕ
clash_words clash.Duplicate = codes "duplicate "
clash_words clash.Unknown = codes "unknown "
clash_words clash.NoParent = codes "no parent for "

-- the first rule that is broken is that of this row
abbrev pub is_first : NetFault → Clash → List ℕ → ℕ → Bool
is_first (fault.Duplicate table j) clash.Duplicate name i = bytes_eq table name && (j == i)
is_first (fault.Unknown table j) clash.Unknown name i = bytes_eq table name && (j == i)
is_first (fault.NoParent j) clash.NoParent name i = j == i
is_first other what name i = false

abbrev pub clash_text : Case → Section → ℕ → Clash → Bool → List ℕ
clash_text b section i what is = if is && not (is_first b.first what (called section) i) then row_fault b.file b.text b.root (clash_words what) (called section) i else []

abbrev pub table_clashes : Case → Section → List Data → ℕ → Option Members → List ℕ
table_clashes b section before i None = []
table_clashes b section before i (Some ms) =
    clash_text b section i clash.Duplicate (repeats section (elements_of b.root) before ms)
    ++ (clash_text b section i clash.Unknown (names_nobody section (elements_of b.root) ms) ++ clash_text b section i clash.NoParent (lacks_parent section b.root ms))

-- each row behind those before it
abbrev pub rows_clashes : Case → Section → List Data → List Data → List ℕ
rows_clashes b section before [] = []
rows_clashes b section before (d ∷ ds) = table_clashes b section before (length before) (as_table d) ++ rows_clashes b section (before ++ d ∷ []) ds

abbrev pub is_too_many : NetFault → List ℕ → Bool
is_too_many (fault.TooMany table) name = bytes_eq table name
is_too_many other name = false

abbrev pub count_clash : Case → Section → ℕ → ℕ → List ℕ
count_clash b section limit n = if nat_lt limit n && not (is_too_many b.first (called section)) then too_many_text b.file b.text (called section) else []

-- of rows past the limit only that there are too many
abbrev pub section_clashes : Case → Section → ℕ → List Data → List ℕ
section_clashes b section limit rows = count_clash b section limit (length rows) ++ rows_clashes b section [] (take limit rows)

abbrev pub parent_clashes : Case → Option Data → List ℕ
parent_clashes b None = []
parent_clashes b (Some d) = table_clashes b Parent (elements_of b.root) 0 (as_table d)

abbrev pub tables_clashes : Case → List ℕ
tables_clashes b =
    section_clashes b Elements ELEMENTS_MAX (elements_of b.root) ++ (section_clashes b Links LINKS_MAX (rows_in (get_member (codes "link") b.root))
    ++ (section_clashes b Peers PEERS_MAX (rows_in (get_member (codes "peer") b.root)) ++ section_clashes b Denials DENY_MAX (rows_in (get_member (codes "deny") b.root))))

abbrev pub family_clashes : Case → List ℕ
family_clashes b = parent_clashes b (get_member (codes "parent") b.root) ++ section_clashes b ParentLinks PARENT_LINKS_MAX (parent_links_of b.root)

abbrev pub clashes_text : Case → List ℕ
clashes_text b = tables_clashes b ++ family_clashes b
