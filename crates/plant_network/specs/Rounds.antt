-- Places that get turns one after the other, as members of a network do, and those who ask them: each has its turn.
use Rattle.std.specs.Prelude.{◌≡◌, ◌≢◌, ◌⊎◌, ◌<◌, ◌≤◌, ℕ, Bool, true, List, [], ◌∷◌, map, Contains}
use Rattle.std.specs.List.{AllByRecursion}

-- The place that has its turn behind the last one, of those that have something to do: the least above it; or the least of all, where
-- none is above it.
pub record IsNextPlace (has : ℕ → Bool) (last next : ℕ) : Type 0 where
  pub has_next : has next ≡ true
  pub is : ((last < next) × ((p : ℕ) → last < p → p < next → has p ≡ true → ⊥))
      ⊎ ((next ≤ last) × ((p : ℕ) → last < p → has p ≡ true → ⊥) × ((p : ℕ) → p < next → has p ≡ true → ⊥))

-- a turn: which places had something to do then, and which had the turn
pub record Turn : Type 0 where
  pub has : ℕ → Bool
  pub place : ℕ

-- turns one after the other, behind one of that place
abbrev pub AreRounds : ℕ → List Turn → Type 0
AreRounds last [] = Unit {0}
AreRounds last (t ∷ ts) = IsNextPlace t.has last t.place × AreRounds t.place ts

abbrev pub last_place : ℕ → List Turn → ℕ
last_place p [] = p
last_place p (t ∷ ts) = last_place t.place ts

-- Between two turns of one place each other place that has something to do all the while has its turn.
abbrev pub EachHasATurn : Type 0
EachHasATurn =
    (p x : ℕ) (t : Turn) (ts : List Turn) → AreRounds p (t ∷ ts) → last_place t.place ts ≡ p → x ≢ p → AllByRecursion (λ (u : Turn). u.has x ≡ true) (t ∷ ts) →
    Contains (map (λ (u : Turn). u.place) (t ∷ ts)) x
