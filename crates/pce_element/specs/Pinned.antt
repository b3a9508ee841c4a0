-- Pending requests, each with what it pins.
use Rattle.std.specs.Prelude.{◌≡◌, ℕ, List, map}
use Rattle.request_table.specs.Pending.{Pending}
use Rattle.pce_common.specs.plant_model.Element.{Item, Row}

-- the current pin, the requests, and how many more there is memory for
pub record Pinned (P : Type 0) : Type 0 where
  pub current : P
  pub pending : Pending (Item P)
  pub spare : ℕ

abbrev pub pins_in : {P : Type 0} → List (Row P) → List P
pins_in rows = map (λ h. h.1.item.pin) rows

-- the world keeps what the requests pin, and nothing else
pub record HoldsPins {P : Type 0} (Keeps : List P → Type 0) (pending : Pending (Item P)) (number : ℕ) : Type 0 where
  pub pins : Keeps (pins_in pending.rows)
  pub limit : pending.limit ≡ 1024
  pub last : number ≡ pending.given
