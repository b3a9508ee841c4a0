-- The rows of a topology after changes, which are made one at a time.
use Rattle.std.specs.Prelude.{◌≡◌, ◌<◌, ◌==◌, ◌&&◌, ℕ, not, Bool, true, false, List, [], ◌∷◌, ◌++◌, Option, Some, None, length, take, filter, slice_get}
use Rattle.std.specs.List.{list_any}
use Rattle.dom_base.specs.AddrOrder.{rank}
use Rattle.dom_base.specs.declared.addr.Addr.{Addr}
use Rattle.dom_base.specs.declared.names.As.{As}
use Rattle.dom_base.specs.declared.link.Link.{Link}
use Rattle.te_links.specs.declared.rows.OutLink.{OutLink}
use Rattle.te_links.specs.declared.rows.Entry.{Entry}
use Rattle.te_links.specs.Rows.{Rows}
use Rattle.te_text.specs.declared.row.TextRow.{TextRow}
use Rattle.te_text.specs.declared.row.TextRow.TheVariants as rows
use Rattle.te_deltas.specs.declared.name.RowName.{RowName}
use Rattle.te_deltas.specs.declared.name.RowName.TheVariants as names
use Rattle.te_deltas.specs.declared.changes.Change.{Change}
use Rattle.te_deltas.specs.declared.changes.Change.TheVariants.{AddNode, DropNode, AddLink, DropLink, AddOut, DropOut, AddEntry, DropEntry}

-- ---- names

-- a node is named by its address, a link and an out link by the far address, an entry by all its fields
abbrev pub name_of : TextRow → RowName
name_of (rows.Node n) = names.Node n
name_of (rows.Link l) = names.Link l.far
name_of (rows.Out o) = names.Out o.link.far
name_of (rows.Entry e) = names.Entry e

abbrev pub same_addr : Addr → Addr → Bool
same_addr a b = rank a == rank b

abbrev pub same_entry : Entry → Entry → Bool
same_entry d e = (d.from_as.0 == e.from_as.0) && same_addr d.node e.node

abbrev pub same_name : RowName → RowName → Bool
same_name (names.Node a) (names.Node b) = same_addr a b
same_name (names.Link a) (names.Link b) = same_addr a b
same_name (names.Out a) (names.Out b) = same_addr a b
same_name (names.Entry d) (names.Entry e) = same_entry d e
same_name _ _ = false

-- a row of this name stands in the list
abbrev pub has_name : RowName → List TextRow → Bool
has_name name list = list_any (λ row. same_name name (name_of row)) list

-- the list without the row of this name
abbrev pub without : RowName → List TextRow → List TextRow
without name list = filter (λ row. not (same_name name (name_of row))) list

-- ---- changes

-- the row that a change adds; a drop adds none
abbrev pub added : Change → Option TextRow
added (AddNode n) = Some (rows.Node n)
added (AddLink l) = Some (rows.Link l)
added (AddOut o) = Some (rows.Out o)
added (AddEntry e) = Some (rows.Entry e)
added (DropNode n) = None
added (DropLink far) = None
added (DropOut far) = None
added (DropEntry e) = None

-- the name of the row that a change adds or drops
abbrev pub named : Change → RowName
named (AddNode n) = names.Node n
named (DropNode n) = names.Node n
named (AddLink l) = names.Link l.far
named (DropLink far) = names.Link far
named (AddOut o) = names.Out o.link.far
named (DropOut far) = names.Out far
named (AddEntry e) = names.Entry e
named (DropEntry e) = names.Entry e

abbrev pub changed_by : Option TextRow → RowName → List TextRow → List TextRow
changed_by (Some row) name list = list ++ row ∷ []
changed_by None name list = without name list

-- an add appends its row, a drop takes its row out
abbrev pub changed : List TextRow → Change → List TextRow
changed list change = changed_by (added change) (named change) list

abbrev pub rows_after : List TextRow → List Change → List TextRow
rows_after list [] = list
rows_after list (change ∷ changes) = rows_after (changed list change) changes

-- ---- mistakes

abbrev pub is_mistake_by : Option TextRow → Bool → Bool
is_mistake_by (Some row) there = there
is_mistake_by None there = not there

-- an add of what is there, or a drop of what is not
abbrev pub is_mistake : List TextRow → Change → Bool
is_mistake list change = is_mistake_by (added change) (has_name (named change) list)

-- no change before place i is a mistake when it is made
abbrev pub NoneBefore : List TextRow → List Change → ℕ → Type 0
NoneBefore list changes i = (j : ℕ) (change : Change) → j < i → slice_get changes j ≡ Some change → is_mistake (rows_after list (take j changes)) change ≡ false

abbrev pub CanBeMade : List TextRow → List Change → Type 0
CanBeMade list changes = NoneBefore list changes (length changes)

-- the change at place i is the first mistake
pub record IsFirstMistake (list : List TextRow) (changes : List Change) (i : ℕ) (change : Change) : Type 0 where
  pub at : slice_get changes i ≡ Some change
  pub mistake : is_mistake (rows_after list (take i changes)) change ≡ true
  pub first : NoneBefore list changes i

-- ---- the rows by their kinds, each in its order

abbrev pub nodes_in : List TextRow → List Addr
nodes_in [] = []
nodes_in (rows.Node n ∷ list) = n ∷ nodes_in list
nodes_in (rows.Link l ∷ list) = nodes_in list
nodes_in (rows.Out o ∷ list) = nodes_in list
nodes_in (rows.Entry e ∷ list) = nodes_in list

abbrev pub links_in : List TextRow → List Link
links_in [] = []
links_in (rows.Node n ∷ list) = links_in list
links_in (rows.Link l ∷ list) = l ∷ links_in list
links_in (rows.Out o ∷ list) = links_in list
links_in (rows.Entry e ∷ list) = links_in list

abbrev pub outs_in : List TextRow → List OutLink
outs_in [] = []
outs_in (rows.Node n ∷ list) = outs_in list
outs_in (rows.Link l ∷ list) = outs_in list
outs_in (rows.Out o ∷ list) = o ∷ outs_in list
outs_in (rows.Entry e ∷ list) = outs_in list

abbrev pub entries_in : List TextRow → List Entry
entries_in [] = []
entries_in (rows.Node n ∷ list) = entries_in list
entries_in (rows.Link l ∷ list) = entries_in list
entries_in (rows.Out o ∷ list) = entries_in list
entries_in (rows.Entry e ∷ list) = e ∷ entries_in list

abbrev pub rows_of : As → List TextRow → Rows
rows_of own list = record { own = own; nodes = nodes_in list; links = links_in list; outs = outs_in list; entries = entries_in list }
