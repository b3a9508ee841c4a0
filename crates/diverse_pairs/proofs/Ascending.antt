-- Lists in strictly rising order of a key, told by recursion and by pairs.
use Rattle.std.proofs.Common.{ℕ, zero, suc, ◌+◌, ◌<◌, ◌≤◌, List, [], ◌∷◌, length, get_or, arith}
use Rattle.std.specs.Prelude.{AllPairs}

-- the keys rise from a place on
abbrev pub RisingFrom : {X : Type 0} → (X → ℕ) → ℕ → List X → Type 0
RisingFrom key least [] = Unit {0}
RisingFrom key least (x ∷ xs) = (least ≤ key x) × RisingFrom key (key x + 1) xs

rising_above : {X : Type 0} (key : X → ℕ) (least : ℕ) (xs : List X) → RisingFrom key least xs → (j : ℕ) (d : X) → j < length xs → least ≤ key (get_or xs j d)
rising_above key least [] up j d below = absurd (omega arith)
rising_above key least (x ∷ xs) up zero d below = up.0
rising_above key least (x ∷ xs) up (suc j) d below = omega (arith, up.0, rising_above key (key x + 1) xs up.1 j d (omega arith))

pub rising_pairs : {X : Type 0} (key : X → ℕ) (least : ℕ) (xs : List X) → RisingFrom key least xs → AllPairs (λ a b. key a < key b) xs
rising_pairs key least [] up i j d before below = absurd (omega arith)
rising_pairs key least (x ∷ xs) up zero zero d before below = absurd (omega arith)
rising_pairs key least (x ∷ xs) up zero (suc j) d before below = omega (arith, rising_above key (key x + 1) xs up.1 j d (omega arith))
rising_pairs key least (x ∷ xs) up (suc i) zero d before below = absurd (omega arith)
rising_pairs key least (x ∷ xs) up (suc i) (suc j) d before below = rising_pairs key (key x + 1) xs up.1 i j d (omega arith) (omega arith)

pub pairs_rise : {X : Type 0} (key : X → ℕ) (least : ℕ) (xs : List X) → ((d : X) → 0 < length xs → least ≤ key (get_or xs 0 d)) →
    AllPairs (λ a b. key a < key b) xs → RisingFrom key least xs
pairs_rise key least [] above up = tt
pairs_rise key least (x ∷ xs) above up = (
  above x (omega arith),
  pairs_rise key (key x + 1) xs
      (λ d some. let less = up 0 1 d (omega arith) (omega arith) in omega (arith, less))
      (λ i j d before below. up (suc i) (suc j) d (omega arith) (omega arith)),
)
