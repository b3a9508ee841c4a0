-- A pending request that a peer names by an id, among those that have not ended.
use Rattle.std.specs.Prelude.{ℕ, Bool, not, cond, List, [], ◌∷◌, filter, Option, Some, None}
use Rattle.request_table.specs.Pending.{same_key, key_of}
use Rattle.pce_common.specs.plant_model.Parent.{AskingRow, among}
use Rattle.pce_common.specs.plant_model.Plant.{has_number}
use Rattle.pce_parent.specs.declared.sought.Sought.{Sought}
use Rattle.pce_parent.specs.declared.sought.Sought.TheVariants.{Asked, Awaited}

abbrev pub is_sought : Sought → AskingRow → Bool
is_sought (Asked p x) h = same_key (key_of p x) h.1.key
is_sought (Awaited p y) h = among p h.1.item.waits y

abbrev pub first_sought : Sought → List AskingRow → Option AskingRow
first_sought s [] = None
first_sought s (h ∷ hs) = cond (is_sought s h) (Some h) (first_sought s hs)

-- the requests whose numbers are none of these
abbrev pub without_these : List ℕ → List AskingRow → List AskingRow
without_these ns rows = filter (λ h. not (has_number h.0 ns)) rows
