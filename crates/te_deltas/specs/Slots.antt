-- A table as contracts see it, by its fields.
use Rattle.std.specs.Prelude.{◌≡◌, suc, List, [], ◌∷◌, Option, Some, None, ℕ, false, if◌then◌else◌}
use Rattle.std.specs.Option.{option_map}
use Rattle.std.specs.BTreeMap.{get}
use Rattle.te_text.specs.declared.row.TextRow.{TextRow}
use Rattle.te_deltas.specs.declared.name.RowName.{RowName}
use Rattle.te_deltas.specs.declared.table.Table.TheInside.{Inside}
use Rattle.te_deltas.specs.Changes.{name_of, same_name, has_name}
use Rattle.te_deltas.specs.contracts.name.RowNameOrd.TheImpl as derived

-- the rows in their slots
abbrev pub live : List (Option TextRow) → List TextRow
live [] = []
live (None ∷ slots) = live slots
live (Some row ∷ slots) = row ∷ live slots

-- the slot of the row of a name
abbrev pub place_in : RowName → List (Option TextRow) → Option ℕ
place_in name [] = None
place_in name (None ∷ slots) = option_map (λ i. suc i) (place_in name slots)
place_in name (Some row ∷ slots) = if same_name name (name_of row) then Some 0 else option_map (λ i. suc i) (place_in name slots)

-- no two rows have one name
abbrev pub DifferByName : List TextRow → Type 0
DifferByName [] = Unit {0}
DifferByName (row ∷ list) = (has_name (name_of row) list ≡ false) × DifferByName list

abbrev pub rows_kept : Inside → List TextRow
rows_kept a = live a.slots.items

pub record HoldsTable (a : Inside) : Type 0 where
  pub places : (name : RowName) → get derived.cmp-value.it a.places name ≡ place_in name a.slots.items
  pub differ : DifferByName (live a.slots.items)
