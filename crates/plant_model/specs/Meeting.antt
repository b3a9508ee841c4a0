-- The functions of the model agree with the contracts of its parts: branches, requests and generations, and the parent's limit.
use Rattle.std.specs.Prelude.{◌≡◌, ◌↔◌, ℕ, ◌++◌, ◌==◌, List, Contains, count_by, Some, Result, Ok, Err, IsTrue}
use Rattle.plant_model.specs.Types.{As, Hop, Asked, Request, Best, Branch}
use Rattle.te_links.specs.Rows.{Rows}
use Rattle.te_generations.specs.Shelf.{Shelf, IsShelf, pins_of, topology_of}
use Rattle.te_generations.specs.Shelf as shelf
use Rattle.pcep_messages.specs.declared.message.Refusal.{Refusal}
use Rattle.pcep_messages.specs.declared.message.Refusal.TheVariants as refusals
use Rattle.pcep_messages.specs.Requests.{Answers}
use Rattle.vspt_tree.specs.Branches.{IsBranchOf}
use Rattle.plant_model.specs.declared.TheConstants.{PARENT_PENDING_MAX}
use Rattle.plant_model.specs.Parent.{pending_most}
use Rattle.plant_model.specs.Wire.{Checked, Admitted, Wrong}
use Rattle.plant_model.specs.Branches.{onward}
use Rattle.plant_model.specs.Element.{Row}
use Rattle.plant_model.specs.Plant.{Pin}
use Rattle.plant_model.specs.Plant as plant
use Rattle.plant_model.specs.RealWire.{check_of}

-- the constant of the parent's limit is the model's
abbrev pub LimitMeets : Type 0
LimitMeets = PARENT_PENDING_MAX ≡ pending_most

abbrev pub BranchMeets : Type 0
BranchMeets = (down : List Branch) (row : Best) (own : List Hop) (branch : Branch) → IsBranchOf down row own branch → branch.hops ≡ own ++ onward row.exit row.head down

-- the answer of a call is what is checked, unless memory ran out
abbrev pub IsChecked : Result Request Refusal → Checked → Type 0
IsChecked (Ok r) checked = checked ≡ Admitted r
IsChecked (Err (refusals.Wire rp kind value)) checked = checked ≡ Wrong rp kind value
IsChecked (Err refusals.NoMemory) checked = Unit {0}

abbrev pub CheckMeets : Type 0
CheckMeets = (asked : Asked) (own : As) (answer : Result Request Refusal) → Answers own.0 asked.objects answer → IsChecked answer (check_of asked own)

-- The generations of an element keep what its requests pin: the current one, and for each request that is pending a pin.
pub record Shelves (s : Shelf Rows) (current : Pin) (rows : List (Row Pin)) : Type 0 where
  pub number : s.current.number ≡ current.number
  pub topology : s.current.topology ≡ current.topology
  pub pins : (number : ℕ) → pins_of s number ≡ count_by (λ h. h.1.item.pin.number == number) rows
  pub pinned : (h : Row Pin) → Contains rows h → topology_of s h.1.item.pin.number ≡ Some h.1.item.pin.topology

abbrev pub LiveMeets : Type 0
LiveMeets = (s : Shelf Rows) (current : Pin) (rows : List (Row Pin)) → IsShelf s → Shelves s current rows → IsTrue (plant.is_full current.number rows) ↔ shelf.IsFull s
