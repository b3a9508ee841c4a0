-- The history of a turnstile: its entries, each an act with its answer, in the order in which the turns were done.
use Rattle.std.specs.Prelude.{Bool, true, ◌&&◌, ltb, length, take, drop, ◌≡◌, ◌==◌, if◌then◌else◌, ℕ, ◌+◌, List, [], ◌∷◌, ◌++◌, ◌⊎◌}

-- the state that the entries leave
abbrev pub replay : {S A B : Type 0} → (S → A → B → S) → S → List (A × B) → S
replay after s [] = s
replay after s (e ∷ es) = replay after (after s e.0 e.1) es

-- each act was admitted, and each answer allowed, by the state at its place of the replay
abbrev pub Legal : {S A B : Type 0} → (S → A → Type 0) → (S → A → B → Type 0) → (S → A → B → S) → S → List (A × B) → Type 0
Legal admits allows after s [] = Unit {0}
Legal admits allows after s (e ∷ es) = admits s e.0 × allows s e.0 e.1 × Legal admits allows after (after s e.0 e.1) es

abbrev pub StartsWith : {E : Type 0} → List E → List E → Type 0
StartsWith {E} xs front = (more : List E) × (xs ≡ front ++ more)

-- every state admits the act, or an entry that was seen warrants it
abbrev pub Admitted : {S A B : Type 0} → (S → A → Type 0) → (A → B → A → Type 0) → List (A × B) → A → Type 0
Admitted {S} {A} {B} admits warrants seen act = ((s : S) → admits s act) ⊎ ((before : List (A × B)) × (e : A × B) × (later : List (A × B)) × (seen ≡ before ++ e ∷ later) × warrants e.0 e.1 act)

-- all are below n
abbrev pub all_below : ℕ → List ℕ → Bool
all_below n [] = true
all_below n (x ∷ xs) = ltb x n && all_below n xs

-- the entries at these places
abbrev pub entries_at : {E : Type 0} → List E → List ℕ → List E
entries_at seen [] = []
entries_at seen (p ∷ ps) = take 1 (drop p seen) ++ entries_at seen ps

-- how often x stands in the list
abbrev pub times : ℕ → List ℕ → ℕ
times x [] = 0
times x (y ∷ ys) = (if y == x then 1 else 0) + times x ys

-- 1 where x is below n, and else 0
abbrev pub once_below : ℕ → ℕ → ℕ
once_below x n = if ltb x n then 1 else 0

abbrev pub longer : {E : Type 0} → List E → List E → List E
longer xs ys = if ltb (length xs) (length ys) then ys else xs
