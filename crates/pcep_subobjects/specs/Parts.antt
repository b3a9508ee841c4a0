-- The answer of a call that looks for the first fault among parts and takes no memory for them.
use Rattle.std.specs.Prelude.{◌≡◌, ℕ, List, Result, Ok, Err, IsOk}

-- the number of octets of the part at the front, or its fault at this place
abbrev pub Measures : {X F : Type 0} → ℕ → Result ℕ F → Result (X × ℕ) (ℕ → F) → Type 0
Measures {X} place (Ok len) read = (x : X) × (read ≡ Ok (x, len))
Measures {X} {F} place (Err e) read = (fault : ℕ → F) × (read ≡ Err fault) × (e ≡ fault place)

-- no fault, or the first one
abbrev pub Checks : {X F : Type 0} → Result Unit F → Result (List X) F → Type 0
Checks (Ok u) read = IsOk read
Checks (Err e) read = read ≡ Err e
