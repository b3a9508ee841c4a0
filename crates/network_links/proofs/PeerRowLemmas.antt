-- Outside peers by their number.
use Rattle.std.proofs.Common.{◌≡◌, ℕ, zero, suc, List, [], ◌∷◌, refl}
use Rattle.std.specs.Prelude.{slice_get}
use Rattle.plant_model.specs.Types.{PeerRow}
use Rattle.plant_text.specs.Settings.{peer_row}

pub peer_row_is : (i : ℕ) (rows : List PeerRow) → peer_row i rows ≡ slice_get rows i
peer_row_is i [] = refl
peer_row_is zero (r ∷ rows) = refl
peer_row_is (suc i) (r ∷ rows) = peer_row_is i rows
