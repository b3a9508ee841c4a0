-- Requests that end one after the other.
use Rattle.std.specs.Prelude.{◌≡◌, ◌++◌, ℕ, cond, List, [], ◌∷◌}
use Rattle.pce_common.specs.declared.reported.Told.{Told}
use Rattle.pce_common.specs.plant_model.Types.{Peer}
use Rattle.pce_common.specs.plant_model.Parent.{Parent, ParentTaken, take_busy, take_cancel}
use Rattle.pce_parent.specs.Changes.{all_ended}
use Rattle.pce_parent.specs.declared.ending.Ending.{Ending}

-- the parent after these requests end, and the messages that are sent
abbrev pub given_by : Parent → Ending → ParentTaken
given_by k e = record { parent = all_ended e.numbers.items k; outputs = e.outputs }

-- what is done next
abbrev pub then_given : ParentTaken → (Parent → ParentTaken) → ParentTaken
then_given g f = let next = f g.parent in record { parent = next.parent; outputs = g.outputs ++ next.outputs }

abbrev pub GoesOn : Parent → (Parent → ParentTaken) → Ending → Ending → Type 0
GoesOn k f old new = given_by k new ≡ then_given (given_by k old) f

-- the steps of one id of a notice that tells this
abbrev pub steps_of : Told → List (Peer → ℕ × ℕ → Parent → ParentTaken)
steps_of told =
    cond told.busy
    (cond told.cancelled (take_busy ∷ take_cancel ∷ []) (take_busy ∷ []))
    (cond told.cancelled (take_cancel ∷ []) [])
