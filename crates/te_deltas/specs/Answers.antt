-- The answers to changes of a topology.
use Rattle.std.specs.Prelude.{◌≡◌, ℕ, List}
use Rattle.te_links.specs.Rows.{Rows, IsInOrder}
use Rattle.te_links.specs.Built.{IsBuilt}
use Rattle.te_links.specs.Faults.{IsFirstBreach}
use Rattle.te_links.specs.declared.fault.BuildError.{BuildError}
use Rattle.te_links.specs.declared.fault.BuildError.TheVariants as build
use Rattle.te_text.specs.declared.row.TextRow.{TextRow}
use Rattle.te_text.specs.TopologyText.{rows_in_order}
use Rattle.te_deltas.specs.declared.changes.Change.{Change}
use Rattle.te_deltas.specs.declared.changes.Change.TheVariants.{AddNode, DropNode, AddLink, DropLink, AddOut, DropOut, AddEntry, DropEntry}
use Rattle.te_deltas.specs.declared.making.ChangeError.{ChangeError}
use Rattle.te_deltas.specs.declared.making.ChangeError.TheVariants.{Absent, Present, Rule, NoMemory}
use Rattle.te_deltas.specs.Changes.{CanBeMade, IsFirstMistake, rows_after, rows_of}

-- the rows of a topology after all changes
abbrev pub changed_rows : Rows → List Change → Rows
changed_rows g changes = rows_of g.own (rows_after (rows_in_order g) changes)

-- Rows build only one topology in order.
abbrev pub BuiltOnce : Type 0
BuiltOnce = (g t u : Rows) → IsBuilt g t → IsBuilt g u → IsInOrder t → IsInOrder u → u ≡ t

-- every change can be made, and the topology is built of the changed rows
pub record IsBuiltOf (g : Rows) (changes : List Change) (t : Rows) : Type 0 where
  pub made : CanBeMade (rows_in_order g) changes
  pub built : IsBuilt (changed_rows g changes) t

-- the error of a change that is a mistake
abbrev pub mistake : Change → ℕ → ChangeError
mistake (AddNode n) i = Present i
mistake (AddLink l) i = Present i
mistake (AddOut o) i = Present i
mistake (AddEntry e) i = Present i
mistake (DropNode n) i = Absent i
mistake (DropLink far) i = Absent i
mistake (DropOut far) i = Absent i
mistake (DropEntry e) i = Absent i

-- the first mistake, under its name
abbrev pub NamesFirst : List TextRow → List Change → ℕ → ChangeError → Type 0
NamesFirst list changes i why = (change : Change) × IsFirstMistake list changes i change × (why ≡ mistake change i)

-- why changes cannot all be made; "out of memory" says nothing about them
abbrev pub IsMistake : List TextRow → List Change → ChangeError → Type 0
IsMistake list changes (Absent i) = NamesFirst list changes i (Absent i)
IsMistake list changes (Present i) = NamesFirst list changes i (Present i)
IsMistake list changes (Rule fault row) = ⊥
IsMistake list changes NoMemory = Unit {0}

-- The first mistake among the changes; where there is none, the first rule that the changed rows break, or out of memory.
abbrev pub IsWhy : Rows → List Change → ChangeError → Type 0
IsWhy g changes (Absent i) = NamesFirst (rows_in_order g) changes i (Absent i)
IsWhy g changes (Present i) = NamesFirst (rows_in_order g) changes i (Present i)
IsWhy g changes (Rule fault row) = CanBeMade (rows_in_order g) changes × IsFirstBreach (changed_rows g changes) fault row
IsWhy g changes NoMemory = CanBeMade (rows_in_order g) changes

-- the error of changes whose rows are no topology
abbrev pub why_not : BuildError → ChangeError
why_not (build.Rule fault row) = Rule fault row
why_not build.NoMemory = NoMemory
