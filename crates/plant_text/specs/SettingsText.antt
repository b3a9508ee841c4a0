-- What a TOML document says of a network: the rows of its tables, up to the first malformed row.
use Rattle.std.specs.Prelude.{ℕ, pos, ◌+◌, ◌-◌, ◌^◌, ◌&&◌, Bool, true, false, not, nat_le, nat_lt, is_some, is_none, unwrap_or, codes, find, List, [], ◌∷◌, Option, Some, None, if◌then◌else◌}
use Rattle.std.specs.List.{list_all, list_any}
use Rattle.std.specs.Str.{bytes_eq}
use Rattle.dom_base.specs.declared.names.As.{As}
use Rattle.dom_base.specs.declared.addr.Addr.{Addr}
use Rattle.dom_base.specs.declared.link.Link.{Link}
use Rattle.dom_base.specs.declared.border.ParentLink.{ParentLink}
use Rattle.dom_base.specs.AddrText.{addr_in}
use Rattle.dom_base.specs.Numerals.{colour_in}
use Rattle.dom_base.specs.Steps.{◌>>=◌}
use Rattle.disclosure.specs.declared.class.Class.{Class}
use Rattle.disclosure.specs.declared.class.Class.TheVariants.{Client, Neighbour, Parent}
use Rattle.te_links.specs.declared.limits.TheConstants.{SRLGS_MAX}
use Rattle.toml.specs.Data.{Data, Items, no_items, item, Members, no_members, member, integer, array, table, get_member, as_str, as_bool}
use Rattle.plant_text.specs.declared.settings.ElementRow.{ElementRow}
use Rattle.plant_text.specs.declared.settings.PeerRow.{PeerRow}
use Rattle.plant_text.specs.declared.settings.Comes.{Comes}
use Rattle.plant_text.specs.declared.settings.Comes.TheVariants.{Anyone, From, Dialled}
use Rattle.plant_text.specs.declared.settings.DenyRow.{DenyRow}
use Rattle.plant_text.specs.declared.fault.Breach.{Breach}
use Rattle.plant_text.specs.declared.fault.Breach.TheVariants.{TooMany, Shape}
use Rattle.plant_text.specs.declared.sheet.Sheet.{Sheet}
use Rattle.plant_text.specs.declared.rows.Found.{Found}
use Rattle.plant_text.specs.declared.forms.Ends.{Ends}

-- ---- values

-- a whole number up to a greatest
abbrev pub number : ℕ → Data → Option ℕ
number most (integer (pos n)) = if nat_le n most then Some n else None
number most _ = None

abbrev pub as_of : Data → Option As
as_of d = number (2 ^ 16 - 1) d >>= λ n. Some (record { 0 = n })

abbrev pub addr_of : Data → Option Addr
addr_of d = as_str d >>= addr_in

abbrev pub colour_of : Data → Option ℕ
colour_of d = as_str d >>= colour_in

-- numbers to the last item
abbrev pub numbers_in : Items → Option (List ℕ)
numbers_in no_items = Some []
numbers_in (item d ds) = number (2 ^ 32 - 1) d >>= λ n. numbers_in ds >>= λ ns. Some (n ∷ ns)

abbrev pub numbers_of : Data → Option (List ℕ)
numbers_of (array ds) = numbers_in ds
numbers_of _ = None

-- ---- keys

-- the value of a key that a table must have
abbrev pub needed : {X : Type 0} → (Data → Option X) → List ℕ → Members → Option X
needed read key ms = get_member key ms >>= read

-- the value of a key that it may have
abbrev pub given_or : {X : Type 0} → (Data → Option X) → X → Option Data → Option X
given_or read default None = Some default
given_or read default (Some d) = read d

abbrev pub optional : {X : Type 0} → (Data → Option X) → X → List ℕ → Members → Option X
optional read default key ms = given_or read default (get_member key ms)

abbrev pub names : Members → List (List ℕ)
names no_members = []
names (member name d ms) = name ∷ names ms

-- a key that is one of these names
abbrev pub is_one_of : List (List ℕ) → List ℕ → Bool
is_one_of known key = list_any (bytes_eq key) known

-- a table of a form has no other key than those of the form
abbrev pub has_only : (List ℕ → Bool) → Members → Bool
has_only is_key ms = list_all is_key (names ms)

-- ---- the forms of rows

abbrev pub element_key : List ℕ → Bool
element_key = is_one_of (codes "as" ∷ codes "id" ∷ codes "topology" ∷ codes "key_life" ∷ codes "parent" ∷ [])

abbrev pub file_of : Data → Option (Option (List ℕ))
file_of d = as_str d >>= λ name. Some (Some name)

unfoldable pub element_of : Members → Option ElementRow
element_of ms = do
  own ← needed as_of (codes "as") ms
  id ← needed addr_of (codes "id") ms
  key_life ← optional (number (2 ^ 16 - 1)) 600 (codes "key_life") ms
  parent ← optional as_bool false (codes "parent") ms
  topology ← optional file_of None (codes "topology") ms
  Some (record { own = own; id = id; topology = topology; key_life = key_life; parent = parent })

abbrev pub link_key : List ℕ → Bool
link_key = is_one_of (codes "a" ∷ codes "b" ∷ [])

unfoldable pub link_of : Members → Option (As × As)
link_of ms = do
  a ← needed as_of (codes "a") ms
  b ← needed as_of (codes "b") ms
  Some (a, b)

abbrev pub peer_key : List ℕ → Bool
peer_key = is_one_of (codes "name" ∷ codes "as" ∷ codes "class" ∷ codes "neighbour" ∷ codes "port" ∷ codes "expand" ∷ codes "down" ∷ codes "from" ∷ codes "connect" ∷ [])

-- a class of this name; only that of a neighbour has a number
abbrev pub class_of : List ℕ → Bool → Option Data → Option Class
class_of word expand None = if bytes_eq word (codes "client") then Some (Client expand) else (if bytes_eq word (codes "parent") then Some Parent else None)
class_of word expand (Some d) = if bytes_eq word (codes "neighbour") then (as_of d >>= λ a. Some (Neighbour a)) else None

abbrev pub class_in : Members → Option Class
class_in ms = do
  word ← needed as_str (codes "class") ms
  expand ← optional as_bool true (codes "expand") ms
  class_of word expand (get_member (codes "neighbour") ms)

-- who connects: anyone to the port, or one address does, or one is dialled; never both
abbrev pub comes_of : Option Data → Option Data → Option Comes
comes_of None None = Some Anyone
comes_of (Some d) None = addr_of d >>= λ a. Some (From a)
comes_of None (Some d) = addr_of d >>= λ a. Some (Dialled a)
comes_of (Some d) (Some e) = None

abbrev pub comes_in : Members → Option Comes
comes_in ms = comes_of (get_member (codes "from") ms) (get_member (codes "connect") ms)

-- No key sets the fields behind `down`.
unfoldable pub peer_of : Members → Option PeerRow
peer_of ms = do
  name ← needed as_str (codes "name") ms
  at ← needed as_of (codes "as") ms
  class ← class_in ms
  port ← optional (number (2 ^ 16 - 1)) 4189 (codes "port") ms
  comes ← comes_in ms
  down ← optional as_bool false (codes "down") ms
  Some (record { name = name; at = at; class = class; port = port; comes = comes; down = down; patience = None; pending = None; keys = None; capability = false })

abbrev pub deny_key : List ℕ → Bool
deny_key = is_one_of (codes "at" ∷ codes "from" ∷ codes "next" ∷ [])

unfoldable pub deny_of : Members → Option DenyRow
deny_of ms = do
  at ← needed as_of (codes "at") ms
  from ← needed as_of (codes "from") ms
  next ← needed as_of (codes "next") ms
  Some (record { at = at; deny = record { from = from; next = next } })

abbrev pub parent_key : List ℕ → Bool
parent_key = is_one_of (codes "id" ∷ codes "link" ∷ [])

abbrev pub parent_link_key : List ℕ → Bool
parent_link_key = is_one_of (codes "from_as" ∷ codes "from" ∷ codes "to_as" ∷ codes "to" ∷ codes "near" ∷ codes "far" ∷ codes "igp" ∷ codes "te" ∷ codes "bw" ∷ codes "colour" ∷ codes "srlg" ∷ [])

unfoldable pub ends_in : Members → Option Ends
ends_in ms = do
  from ← needed addr_of (codes "from") ms
  to ← needed addr_of (codes "to") ms
  near ← needed addr_of (codes "near") ms
  far ← needed addr_of (codes "far") ms
  Some (record { from = from; to = to; near = near; far = far })

unfoldable pub link_in : Members → Option Link
link_in ms = do
  ends ← ends_in ms
  igp ← needed (number (2 ^ 32 - 1)) (codes "igp") ms
  te ← needed (number (2 ^ 32 - 1)) (codes "te") ms
  bw ← needed (number (2 ^ 64 - 1)) (codes "bw") ms
  colour ← needed colour_of (codes "colour") ms
  srlgs ← optional numbers_of [] (codes "srlg") ms
  Some (record { from = ends.from; to = ends.to; near = ends.near; far = ends.far; igp = igp; te = te; bytes_per_second = bw; colour = colour; srlgs = srlgs })

unfoldable pub parent_link_of : Members → Option ParentLink
parent_link_of ms = do
  from_as ← needed as_of (codes "from_as") ms
  to_as ← needed as_of (codes "to_as") ms
  link ← link_in ms
  Some (record { from_as = from_as; to_as = to_as; link = link })

-- ---- tables

-- the form of a table, and the fault of a table that is malformed
pub record Form (R : Type 0) : Type 0 where
  pub is_key : List ℕ → Bool
  pub read : Members → Option R
  pub wrong : Members → Breach

abbrev pub element_form : Form ElementRow
element_form = record { is_key = element_key; read = element_of; wrong = λ ms. Shape }

abbrev pub link_form : Form (As × As)
link_form = record { is_key = link_key; read = link_of; wrong = λ ms. Shape }

abbrev pub peer_form : Form PeerRow
peer_form = record { is_key = peer_key; read = peer_of; wrong = λ ms. Shape }

abbrev pub deny_form : Form DenyRow
deny_form = record { is_key = deny_key; read = deny_of; wrong = λ ms. Shape }

abbrev pub item_count : Items → ℕ
item_count no_items = 0
item_count (item d ds) = item_count ds + 1

-- more shared risk groups than a link may be in, of whatever form
abbrev pub has_many : Option Data → Bool
has_many (Some (array ds)) = nat_lt SRLGS_MAX (item_count ds)
has_many _ = false

abbrev pub parent_link_form : Form ParentLink
parent_link_form = record { is_key = parent_link_key; read = parent_link_of; wrong = λ ms. if has_many (get_member (codes "srlg") ms) then TooMany else Shape }

abbrev pub row_in : {R : Type 0} → Form R → Data → Option R
row_in form (table ms) = if has_only form.is_key ms then form.read ms else None
row_in form _ = None

abbrev pub wrong_in : {R : Type 0} → Form R → Data → Breach
wrong_in form (table ms) = form.wrong ms
wrong_in form _ = Shape

abbrev pub nothing : {R : Type 0} → Found R
nothing = record { rows = []; cut = None }

abbrev pub with_row : {R : Type 0} → Option R → Breach → Found R → Found R
with_row (Some row) wrong others = record { rows = row ∷ others.rows; cut = others.cut }
with_row None wrong others = record { rows = []; cut = Some wrong }

abbrev pub rows_in : {R : Type 0} → Form R → Items → Found R
rows_in form no_items = nothing
rows_in form (item d ds) = with_row (row_in form d) (wrong_in form d) (rows_in form ds)

-- the rows at the name of a table
abbrev pub rows_of : {R : Type 0} → Form R → Option Data → Found R
rows_of form None = nothing
rows_of form (Some (array ds)) = rows_in form ds
rows_of form (Some d) = record { rows = []; cut = Some Shape }

-- ---- the parent

abbrev pub parent_id : Option Data → Option Addr
parent_id (Some (table ms)) = if has_only parent_key ms then needed addr_of (codes "id") ms else None
parent_id _ = None

abbrev pub is_table : Option Data → Bool
is_table (Some (table ms)) = true
is_table _ = false

abbrev pub parent_links_of : Option Data → Found ParentLink
parent_links_of (Some (table ms)) = rows_of parent_link_form (get_member (codes "link") ms)
parent_links_of _ = nothing

-- ---- the whole

abbrev pub top_key : List ℕ → Bool
top_key = is_one_of (codes "element" ∷ codes "link" ∷ codes "peer" ∷ codes "deny" ∷ codes "parent" ∷ codes "workers" ∷ codes "watch" ∷ [])

abbrev pub workers_of : Members → Option ℕ
workers_of root = optional (number (2 ^ 32 - 1)) 2 (codes "workers") root

-- the port of watchers, where it is well-formed
abbrev pub watch_of : Option Data → Option ℕ
watch_of port = port >>= number (2 ^ 16 - 1)

abbrev pub sheet_of_rows : Found ElementRow → Found (As × As) → Found PeerRow → Found DenyRow → Option Data → Found ParentLink → Option ℕ → Option Data → Option (List ℕ) → Sheet
sheet_of_rows elements links peers deny parent parent_links workers watch other = record {
  parts = record {
    elements = elements.rows;
    links = links.rows;
    peers = peers.rows;
    deny = deny.rows;
    parent = parent_id parent;
    parent_links = parent_links.rows;
    workers = unwrap_or workers 2;
    watch = watch_of watch;
  };
  cuts = record {
    elements = elements.cut;
    links = links.cut;
    peers = peers.cut;
    deny = deny.cut;
    parent = is_table parent && is_none (parent_id parent);
    no_parent = is_some parent && not (is_table parent);
    parent_links = parent_links.cut;
    workers = is_none workers;
    watch = is_some watch && is_none (watch_of watch);
  };
  other = other;
}

-- The rows of the tables, and the first name that is not known: names stand in the order of their bytes.
abbrev pub sheet_in : Members → Sheet
sheet_in root =
    let parent = get_member (codes "parent") root in
    sheet_of_rows (rows_of element_form (get_member (codes "element") root)) (rows_of link_form (get_member (codes "link") root)) (rows_of peer_form (get_member (codes "peer") root))
    (rows_of deny_form (get_member (codes "deny") root)) parent (parent_links_of parent) (workers_of root) (get_member (codes "watch") root) (find (λ k. not (top_key k)) (names root))
