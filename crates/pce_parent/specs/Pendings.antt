-- The pending requests of the parent, by their places.
use Rattle.std.specs.Prelude.{◌≡◌, ◌+◌, ℕ, suc, cond, List, [], ◌∷◌, ◌++◌, take, drop, map, Some, slice_get}
use Rattle.pce_common.specs.plant_model.Types.{Peer}
use Rattle.request_table.specs.Pending.{Pending}
use Rattle.pce_common.specs.plant_model.declared.output.Lost.{Lost}
use Rattle.pce_common.specs.plant_model.Parent.{Asking, AskingRow, stays, is_lost, lost_of}
use Rattle.pce_parent.specs.declared.pending.Row.{Row}

-- a pending request that is looked at
abbrev pub row_of : Row → AskingRow
row_of r = (r.number, record { key = r.key; item = r.item.now })

abbrev pub with_rows : List AskingRow → Pending Asking → Pending Asking
with_rows rows pending = record pending { rows = rows }

-- The session of a peer goes down: the request at a place stays, or it is gone, and noted where it is lost; and the place of
-- the next one.
pub record Leaves (peer : Peer) (k : ℕ) (old new : Pending Asking) (noted noting : List Lost) (next : ℕ) : Type 0 where
  pub row : AskingRow
  pub here : slice_get old.rows k ≡ Some row
  pub rows_are : new ≡ with_rows (take k old.rows ++ cond (stays peer row) (row ∷ []) [] ++ drop (suc k) old.rows) old
  pub lost_are : noting ≡ noted ++ map lost_of (cond (is_lost peer row) (row ∷ []) [])
  pub next_is : next ≡ k + cond (stays peer row) 1 0
