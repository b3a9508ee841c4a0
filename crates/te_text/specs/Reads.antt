-- Which topology a text gives, and at which line it fails to give one.
use Rattle.std.specs.Prelude.{◌≡◌, ◌⊎◌, ℕ, List, Ok, Err, Some, slice_get}
use Rattle.te_links.specs.declared.fault.Row.{Row}
use Rattle.te_links.specs.declared.fault.RowKind.{RowKind}
use Rattle.te_links.specs.declared.fault.RowKind.TheVariants.{Node, Link, Out, Entry}
use Rattle.te_links.specs.declared.fault.TopoFault.{TopoFault}
use Rattle.te_links.specs.Rows.{Rows}
use Rattle.te_links.specs.Faults.{rows_of_parts, IsFirstBreach}
use Rattle.te_links.specs.Built.{IsBuilt}
use Rattle.te_text.specs.declared.reading.RowLines.{RowLines}
use Rattle.te_text.specs.declared.reading.Reading.{Reading}
use Rattle.te_text.specs.declared.error.TextError.TheVariants.{At}
use Rattle.te_text.specs.Reading.{text_in}

-- the text has the form, and its rows are those of the topology
pub record Reads (bytes : List ℕ) (t : Rows) : Type 0 where
  pub reading : Reading
  pub form : text_in bytes ≡ Ok reading
  pub rows : IsBuilt (rows_of_parts reading.parts) t

-- the lines of the rows of a kind
abbrev pub lines_of_kind : RowLines → RowKind → List ℕ
lines_of_kind lines Node = lines.nodes
lines_of_kind lines Link = lines.links
lines_of_kind lines Out = lines.outs
lines_of_kind lines Entry = lines.entries

-- the text has the form, and its first row that breaks a rule stands in this line
pub record BreaksRule (bytes : List ℕ) (line : ℕ) (fault : TopoFault) : Type 0 where
  pub reading : Reading
  pub form : text_in bytes ≡ Ok reading
  pub row : Row
  pub breach : IsFirstBreach (rows_of_parts reading.parts) fault row
  pub place : slice_get (lines_of_kind reading.lines row.kind) row.index ≡ Some line

-- the first line that is outside the form; else the line of the first row that breaks a rule
abbrev pub IsFaulty : List ℕ → ℕ → TopoFault → Type 0
IsFaulty bytes line fault = (text_in bytes ≡ Err (At line fault)) ⊎ BreaksRule bytes line fault
