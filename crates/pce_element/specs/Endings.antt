-- Requests that end one after the other.
use Rattle.std.specs.Prelude.{ℕ, cond, List, [], ◌∷◌, ◌++◌}
use Rattle.pce_common.specs.plant_model.Types.{Peer}
use Rattle.pce_common.specs.plant_model.Element.{Element, Taken, waiting}
use Rattle.pce_common.specs.plant_model.Taking.{take_busy, take_cancel, take_failure}
use Rattle.pce_common.specs.declared.reported.Told.{Told}
use Rattle.pce_element.specs.Changes.{all_ended}
use Rattle.pce_element.specs.declared.telling.Ending.{Ending}

-- the element after those that have ended, and what was sent
abbrev pub reached : {P : Type 0} {S : Type 0} → Element P S → Ending → Taken P S
reached k e = record { element = all_ended e.numbers k; outputs = e.outputs }

-- with one more step
abbrev pub after : {P : Type 0} {S : Type 0} → Taken P S → (Element P S → Taken P S) → Taken P S
after t step =
    let next = step t.element in
    record { element = next.element; outputs = t.outputs ++ next.outputs }

-- an error about the request that waits for the answer to an id
abbrev pub failing : {P : Type 0} {S : Type 0} → Peer → ℕ × ℕ → ℕ × ℕ → Element P S → Taken P S
failing p error rp k = take_failure error k (waiting p rp.1 k.pending.rows)

-- the steps of one id of a notice that tells this
abbrev pub steps_of : {P : Type 0} {S : Type 0} → Told → List (Peer → ℕ × ℕ → Element P S → Taken P S)
steps_of told =
    cond told.busy
    (cond told.cancelled (take_busy ∷ take_cancel ∷ []) (take_busy ∷ []))
    (cond told.cancelled (take_cancel ∷ []) [])
