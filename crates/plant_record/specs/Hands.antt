-- What a desk hands out of its tape, and what a record does with it.
use Rattle.std.specs.Prelude.{◌≡◌, ℕ, List, [], ◌∷◌, ◌++◌, Option, Some, None, Ok, Err}
use Rattle.std.specs.declared.result.Result.{Result}
use Rattle.event_tape.specs.declared.tape.Handed.{Handed}

-- what was handed out so far, the oldest first, and at which number the desk was spent
pub record Hands : Type 0 where
  pub hands : List Handed
  pub spent : Option ℕ

-- one more hand, or the desk is spent
abbrev pub Goes : Hands → Hands → Result Handed ℕ → Type 0
Goes old new (Ok h) = (new.hands ≡ old.hands ++ h ∷ []) × (new.spent ≡ None)
Goes old new (Err t) = (new.hands ≡ old.hands) × (new.spent ≡ Some t)
