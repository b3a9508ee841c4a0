-- Lines of a script, played one after the other.
use Rattle.std.specs.Prelude.{◌≡◌, ℕ, List, [], ◌∷◌, ◌++◌}
use Rattle.plant_network.specs.plant_model.Events.{Answered}
use Rattle.plant_play.specs.Playing.{Cue, PlaysLine, PlayedNetwork}
use Rattle.plant_play.specs.Turns.{Turn}

-- one line, and then others
pub record PlaysFirst (Others : PlayedNetwork → List Turn → List ℕ → PlayedNetwork → Type 0) (old : PlayedNetwork) (c : Cue) (turns : List Turn) (told : List ℕ) (new : PlayedNetwork) : Type 0 where
  pub answer : Answered
  pub first : List Turn
  pub said : List ℕ
  pub mid : PlayedNetwork
  pub plays : PlaysLine old c answer first said mid
  pub later : List Turn
  pub more : List ℕ
  pub others : Others mid later more new
  pub turns_are : turns ≡ first ++ later
  pub told_is : told ≡ said ++ more

-- The lines are played one after the other.
abbrev pub AllPlayed : PlayedNetwork → List Cue → List Turn → List ℕ → PlayedNetwork → Type 0
AllPlayed old [] turns told new = (turns ≡ []) × (told ≡ []) × (new ≡ old)
AllPlayed old (c ∷ cs) turns told new = PlaysFirst (λ mid later more end. AllPlayed mid cs later more end) old c turns told new
