-- Each place has its turn.
use Rattle.std.proofs.Common.{◌≡◌, ◌≢◌, ◌⊎◌, ◌<◌, ◌≤◌, ℕ, nat_eq, nat_lt, Bool, true, List, [], ◌∷◌, map, inl, inr, sym, subst, arith}
use Rattle.std.specs.Prelude.{Contains}
use Rattle.std.specs.List.{AllByRecursion}
use Rattle.std.proofs.lemmas.Bool.{cases_Bool, eqb-true, eqb-false, ltb-true, ltb-false}
use Rattle.border_costs.proofs.Members.{contains_head, contains_tail}
use Rattle.plant_network.specs.Rounds.{AreRounds, EachHasATurn, IsNextPlace, Turn, last_place}

less_or : (a b : ℕ) → (a < b) ⊎ (b ≤ a)
less_or a b = elim (cases_Bool (nat_lt a b)) [ inl is ↦ inl (ltb-true a b is) | inr is ↦ inr (ltb-false a b is) ]

less_by : (a b : ℕ) → a ≤ b → a ≢ b → a < b
less_by a b most differs = elim (less_or a b) [ inl less ↦ less | inr more ↦ absurd (differs (let same : a ≡ b = omega (arith, most, more) in same)) ]

module _ (p x : ℕ) where
  -- behind p, and before x
  abbrev IsBetween : ℕ → Type 0
  IsBetween q = ((p < x) × (p < q) × (q < x)) ⊎ ((x < p) × ((p < q) ⊎ (q < x)))

  not_p : (q : ℕ) → IsBetween q → q ≡ p → ⊥
  not_p q (inl is) same = omega (arith, is.1, same)
  not_p q (inr (below, inl is)) same = omega (arith, is, same)
  not_p q (inr (below, inr is)) same = omega (arith, below, is, same)

  module _ (has : ℕ → Bool) (q n : ℕ) (has_x : has x ≡ true) (next : IsNextPlace has q n) (not_x : n ≢ x) where
    -- the last place stands below x, so the next one does
    when_below : q < x → (q < n) × (n < x)
    when_below less = elim next.is [
      | inl up ↦ (up.0, elim (less_or x n) [ inl above ↦ absurd (up.1 x less above has_x) | inr most ↦ less_by n x most not_x ])
      | inr round ↦ absurd (round.1 x less has_x)
    ]

    -- it stands above it
    when_above : x < q → (q < n) ⊎ (n < x)
    when_above more = elim next.is [
      | inl up ↦ inl up.0
      | inr round ↦ inr (elim (less_or x n) [ inl above ↦ absurd (round.2 x above has_x) | inr most ↦ less_by n x most not_x ])
    ]

    from_above : x < p → p ≤ q → IsBetween n
    from_above below at = elim (when_above (let more : x < q = omega (arith, below, at) in more)) [
      | inl more ↦ inr (below, inl (omega (arith, at, more)))
      | inr less ↦ inr (below, inr less)
    ]

    one_step : x ≢ p → (q ≡ p) ⊎ IsBetween q → IsBetween n
    one_step other (inl same) = elim (less_or p x) [
      | inl less ↦ let up = when_below (let l : q < x = omega (arith, same, less) in l) in inl (less, omega (arith, same, up.0), up.1)
      | inr most ↦ from_above (less_by x p most other) (omega (arith, same))
    ]
    one_step other (inr (inl is)) = let up = when_below is.2 in inl (is.0, omega (arith, is.1, up.0), up.1)
    one_step other (inr (inr (below, inl is))) = from_above below (omega (arith, is))
    one_step other (inr (inr (below, inr is))) = inr (below, inr (when_below is).1)

  abbrev places : List Turn → List ℕ
  places ts = map (λ (u : Turn). u.place) ts

  module _ (other : x ≢ p) where
    walk : (q : ℕ) → (q ≡ p) ⊎ IsBetween q → (t : Turn) (ts : List Turn) → AreRounds q (t ∷ ts) → last_place t.place ts ≡ p → AllByRecursion (λ (u : Turn). u.has x ≡ true) (t ∷ ts) → Contains (places (t ∷ ts)) x
    walk q at t [] are ends all = elim (cases_Bool (nat_eq t.place x)) [
      | inl same ↦ subst (λ (y : ℕ). Contains (t.place ∷ []) y) (eqb-true t.place x same) (contains_head t.place [])
      | inr differs ↦ absurd (not_p t.place (one_step t.has q t.place all.0 are.0 (eqb-false t.place x differs) other at) ends)
    ]
    walk q at t (u ∷ ts) are ends all = elim (cases_Bool (nat_eq t.place x)) [
      | inl same ↦ subst (λ (y : ℕ). Contains (t.place ∷ places (u ∷ ts)) y) (eqb-true t.place x same) (contains_head t.place (places (u ∷ ts)))
      | inr differs ↦ contains_tail t.place (places (u ∷ ts)) x (walk t.place (inr (one_step t.has q t.place all.0 are.0 (eqb-false t.place x differs) other at)) u ts are.1 ends all.1)
    ]

pub each_has_a_turn : EachHasATurn
each_has_a_turn p x t ts are ends other all = walk p x other p (inl (let e : p ≡ p = omega arith in e)) t ts are ends all
