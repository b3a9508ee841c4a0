-- What becomes of the requests when a session goes down.
use Rattle.std.specs.Prelude.{◌≡◌, ℕ, suc, cond, List, [], ◌∷◌, ◌++◌, take, drop, Some, slice_get}
use Rattle.pce_common.specs.plant_model.Types.{Peer}
use Rattle.pce_common.specs.plant_model.Element.{Row, stays, is_lost, lost_of}
use Rattle.pce_element.specs.Pinned.{Pinned}
use Rattle.pce_element.specs.declared.pinned.Leaves.{Leaves}
use Rattle.pce_element.specs.declared.pinned.Leaves.TheVariants.{Stays, Drops, Loses}

abbrev pub leaves_of : {P : Type 0} → Peer → Row P → Leaves
leaves_of peer h = cond (stays peer h) Stays (cond (is_lost peer h) (Loses (lost_of h)) Drops)

-- other requests, and the same current pin
abbrev pub with_rows : {P : Type 0} → List (Row P) → Pinned P → Pinned P
with_rows rows p = record p { pending = record p.pending { rows = rows } }

abbrev pub SameButSpare : {P : Type 0} → Pinned P → Pinned P → Type 0
SameButSpare a b = b ≡ record a { spare = b.spare }

-- the request at a place stays, or is gone
pub record LeavesAt {P : Type 0} (peer : Peer) (k : ℕ) (old new : Pinned P) (leaves : Leaves) : Type 0 where
  pub row : Row P
  pub at : slice_get old.pending.rows k ≡ Some row
  pub is : leaves ≡ leaves_of peer row
  pub rows : SameButSpare (with_rows (take k old.pending.rows ++ cond (stays peer row) (row ∷ []) [] ++ drop (suc k) old.pending.rows) old) new
