-- The join of a border table with what lies beyond it (RFC 5441, section 4.2): of a table as a list of rows, whoever made it.
use Rattle.std.specs.Prelude.{◌≡◌, ◌+◌, ◌≤◌, ℕ, List, Contains, None, Some}
use Rattle.std.specs.declared.option.Option.{Option}
use Rattle.dom_base.specs.declared.addr.Addr.{Addr}
use Rattle.dom_base.specs.declared.border.BorderRow.{BorderRow}
use Rattle.dom_base.specs.declared.query.Label.{Label}
use Rattle.walk_laws.specs.Labels.{◌≼◌}
use Rattle.walk_laws.specs.Borders.{Beyond, IsDown}

-- a row of the entry with the least cost beyond its head: a sum within the cap, and the row's far address
pub record RowJoins (cap : ℕ) (table : List BorderRow) (down : List Beyond) (entry : Addr) (a : Label) : Type 0 where
  pub row : BorderRow
  pub is_row : Contains table row
  pub at_entry : row.entry ≡ entry
  pub beyond : ℕ
  pub is_down : IsDown down row.head beyond
  pub sum : a.cost ≡ row.cost + beyond
  pub exit : a.exit ≡ row.far
  pub within : a.cost ≤ cap

-- the least of these pairs, or none
abbrev pub IsTableJoin : ℕ → List BorderRow → List Beyond → Addr → Option Label → Type 0
IsTableJoin cap table down entry None = (a : Label) → ¬ RowJoins cap table down entry a
IsTableJoin cap table down entry (Some a) = RowJoins cap table down entry a × ((b : Label) → RowJoins cap table down entry b → a ≼ b)

-- in the last domain: a row of the entry within the cap, with its far address
pub record RowEnds (cap : ℕ) (table : List BorderRow) (entry : Addr) (a : Label) : Type 0 where
  pub row : BorderRow
  pub is_row : Contains table row
  pub at_entry : row.entry ≡ entry
  pub sum : a.cost ≡ row.cost
  pub exit : a.exit ≡ row.far
  pub within : a.cost ≤ cap

abbrev pub IsTableEnd : ℕ → List BorderRow → Addr → Option Label → Type 0
IsTableEnd cap table entry None = (a : Label) → ¬ RowEnds cap table entry a
IsTableEnd cap table entry (Some a) = RowEnds cap table entry a × ((b : Label) → RowEnds cap table entry b → a ≼ b)

-- a table has one join
abbrev pub OneTableJoin : Type 0
OneTableJoin =
    (cap : ℕ) (table : List BorderRow) (down : List Beyond) (entry : Addr) (o other : Option Label) →
    IsTableJoin cap table down entry o → IsTableJoin cap table down entry other → o ≡ other

abbrev pub OneTableEnd : Type 0
OneTableEnd =
    (cap : ℕ) (table : List BorderRow) (entry : Addr) (o other : Option Label) →
    IsTableEnd cap table entry o → IsTableEnd cap table entry other → o ≡ other
