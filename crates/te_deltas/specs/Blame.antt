-- The line of a change file that is at fault when its changes fail.
use Rattle.std.specs.Prelude.{◌≡◌, ◌≢◌, ◌⊎◌, ◌≤◌, ◌+◌, ℕ, List, map, Option, Some, slice_get, Contains}
use Rattle.std.specs.Option.{option_map}
use Rattle.line_text.specs.Lines.{NumberedLine, told_lines}
use Rattle.te_links.specs.declared.fault.Row.{Row}
use Rattle.te_links.specs.declared.fault.RowKind.{RowKind}
use Rattle.te_links.specs.declared.fault.RowKind.TheVariants as kinds
use Rattle.te_links.specs.Rows.{Rows}
use Rattle.te_text.specs.declared.row.TextRow.{TextRow}
use Rattle.te_text.specs.declared.row.TextRow.TheVariants as rows
use Rattle.te_text.specs.TopologyText.{rows_in_order}
use Rattle.te_deltas.specs.declared.name.RowName.{RowName}
use Rattle.te_deltas.specs.declared.changes.Change.{Change}
use Rattle.te_deltas.specs.declared.making.ChangeError.{ChangeError}
use Rattle.te_deltas.specs.declared.making.ChangeError.TheVariants.{Absent, Present, Rule, NoMemory}
use Rattle.te_deltas.specs.Changes.{added, name_of, named}
use Rattle.te_deltas.specs.Answers.{changed_rows}

-- the numbers of lines, in their order
abbrev pub numbers_of : List NumberedLine → List ℕ
numbers_of lines = map (λ (line : NumberedLine). line.number) lines

-- the change at place i stands in the line of this number; lines that say no change count too
abbrev pub StandsIn : List ℕ → ℕ → ℕ → Type 0
StandsIn file i line = slice_get (numbers_of (told_lines file)) i ≡ Some line

-- the row of a kind at place i
abbrev pub row_at : Rows → RowKind → ℕ → Option TextRow
row_at g kinds.Node i = option_map (λ n. rows.Node n) (slice_get g.nodes i)
row_at g kinds.Link i = option_map (λ l. rows.Link l) (slice_get g.links i)
row_at g kinds.Out i = option_map (λ o. rows.Out o) (slice_get g.outs i)
row_at g kinds.Entry i = option_map (λ e. rows.Entry e) (slice_get g.entries i)

-- no change from place i on is of this name
abbrev pub NoneFrom : ℕ → List Change → RowName → Type 0
NoneFrom i changes name = (j : ℕ) (change : Change) → i ≤ j → slice_get changes j ≡ Some change → named change ≢ name

-- the change at place i is the last one of this name
pub record IsLastOf (changes : List Change) (name : RowName) (i : ℕ) (change : Change) : Type 0 where
  pub at : slice_get changes i ≡ Some change
  pub names : named change ≡ name
  pub last : NoneFrom (i + 1) changes name

-- the change at place i added the row, and no later one is of its name
abbrev pub AddedBy : List Change → TextRow → ℕ → Type 0
AddedBy changes row i = (change : Change) × IsLastOf changes (name_of row) i change × (added change ≡ Some row)

-- the row stood in the topology, and no change is of its name
pub record WasThere (g : Rows) (changes : List Change) (row : TextRow) : Type 0 where
  pub there : Contains (rows_in_order g) row
  pub kept : NoneFrom 0 changes (name_of row)

-- the line of the change that added the row, or 0 where the row was there before
abbrev pub IsLineOfRow : Rows → List Change → List ℕ → TextRow → ℕ → Type 0
IsLineOfRow g changes file row line = ((i : ℕ) × AddedBy changes row i × StandsIn file i line) ⊎ (WasThere g changes row × (line ≡ 0))

-- the same of a row of the changed rows, by its kind and its place
abbrev pub IsLineOfPlace : Rows → List Change → List ℕ → Row → ℕ → Type 0
IsLineOfPlace g changes file at line = (row : TextRow) × (row_at (changed_rows g changes) at.kind at.index ≡ Some row) × IsLineOfRow g changes file row line

-- The line of the change that is a mistake, or of the change that added the row which breaks a rule; 0 where no line is to blame.
abbrev pub IsBlamedAt : Rows → List Change → List ℕ → ChangeError → ℕ → Type 0
IsBlamedAt g changes file (Absent i) line = StandsIn file i line
IsBlamedAt g changes file (Present i) line = StandsIn file i line
IsBlamedAt g changes file (Rule fault at) line = IsLineOfPlace g changes file at line
IsBlamedAt g changes file NoMemory line = line ≡ 0

-- a broken rule, whose line is looked for among the changed rows; every other error has its place
abbrev pub IsOfRule : ChangeError → Type 0
IsOfRule (Absent i) = ⊥
IsOfRule (Present i) = ⊥
IsOfRule (Rule fault at) = Unit {0}
IsOfRule NoMemory = ⊥
