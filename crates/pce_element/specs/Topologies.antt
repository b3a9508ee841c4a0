-- The generations of a topology, and the pins that keep them.
use Rattle.std.specs.Prelude.{◌≡◌, ◌==◌, ℕ, List, length, count_by, Contains, Some}
use Rattle.te_links.specs.Rows.{Rows}
use Rattle.te_generations.specs.Shelf.{Shelf, all_pins, pins_of, topology_of}
use Rattle.pce_common.specs.plant_model.Plant.{Pin}

abbrev pub current_of : Shelf Rows → Pin
current_of s = record { number = s.current.number; topology = s.current.topology }

-- Each generation has as many pins as there are of it here, and the topology that they name.
pub record KeepsPins (s : Shelf Rows) (pins : List Pin) : Type 0 where
  pub count : all_pins s ≡ length pins
  pub each : (number : ℕ) → pins_of s number ≡ count_by (λ p. p.number == number) pins
  pub topology : (p : Pin) → Contains pins p → topology_of s p.number ≡ Some p.topology
