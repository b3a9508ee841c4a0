-- What a world keeps for the requests that are pending: a pin for each, and no other.
use Rattle.std.specs.Prelude.{◌<◌, List, [], ◌∷◌, ◌++◌, length, Contains}

-- there is a pin more to give
abbrev pub MayPin : {P : Type 0} → (List P → Type 0) → Type 0
MayPin {P} Keeps = (pins : List P) × Keeps pins × (length pins < 1024)

-- a pin that is kept
abbrev pub IsKept : {P : Type 0} → (List P → Type 0) → P → Type 0
IsKept {P} Keeps pin = (pins : List P) × Keeps pins × Contains pins pin

-- the same pins, and one more
abbrev pub KeepsOneMore : {P : Type 0} → (List P → Type 0) → P → (List P → Type 0) → Type 0
KeepsOneMore {P} Before pin After = (pins : List P) → Before pins → After (pins ++ pin ∷ [])

-- the same pins but for one
abbrev pub KeepsOneLess : {P : Type 0} → (List P → Type 0) → P → (List P → Type 0) → Type 0
KeepsOneLess {P} Before pin After = (front back : List P) → Before (front ++ pin ∷ back) → After (front ++ back)
