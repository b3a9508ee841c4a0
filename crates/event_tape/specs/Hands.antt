-- Hands of a tape, the oldest first.
use Rattle.std.specs.Prelude.{◌≡◌, ℕ, ◌+◌, List, [], ◌∷◌, length}
use Rattle.std.specs.List.{flat_map}
use Rattle.event_tape.specs.declared.told.Told.{Told}
use Rattle.event_tape.specs.declared.tape.Handed.{Handed}

-- the events of hands
abbrev pub told_of : List Handed → List Told
told_of hands = flat_map (λ h. h.items) hands

-- each hand begins where the one before ended; so many events were had before the first
abbrev pub AreWhole : ℕ → List Handed → Type 0
AreWhole n [] = Unit {0}
AreWhole n (h ∷ hs) = (h.before ≡ n) × AreWhole (n + length h.items) hs
