-- What stands in a list that was picked from another stands in that one.
use Rattle.std.proofs.Common.{◌≡◌, ◌∙◌, ℕ, zero, suc, List, [], ◌∷◌, ◌++◌, take, drop, ap, subst, refl, inl, inr, Option, Some, None}
use Rattle.std.specs.Prelude.{Contains}
use Rattle.std.specs.List.{filter_map, cons_option}
use Rattle.std.proofs.lemmas.List.Elements.{Contains-append_cases}
use Rattle.border_costs.proofs.Members.{contains_none, contains_head, contains_tail, contains_cases}
use Rattle.plant_lock.specs.History.{entries_at}

module _ {E : Type 0} where
  one_of : (xs : List E) (p : ℕ) (e : E) → Contains (take 1 (drop p xs)) e → Contains xs e
  one_of [] zero e is = absurd (contains_none e is)
  one_of [] (suc p) e is = absurd (contains_none e is)
  one_of (x ∷ xs) zero e is = elim (contains_cases x [] e is) [ inl same ↦ subst (λ (z : E). Contains (x ∷ xs) z) same (contains_head x xs) | inr none ↦ absurd (contains_none e none) ]
  one_of (x ∷ xs) (suc p) e is = contains_tail x xs e (one_of xs p e is)

  -- the entries at some places
  pub own_is_seen : (seen : List E) (ps : List ℕ) (e : E) → Contains (entries_at seen ps) e → Contains seen e
  own_is_seen seen [] e is = absurd (contains_none e is)
  own_is_seen seen (p ∷ ps) e is = elim (Contains-append_cases (take 1 (drop p seen)) (entries_at seen ps) e is) [ inl here ↦ one_of seen p e here | inr later ↦ own_is_seen seen ps e later ]

  -- what stands before it and behind it
  pub split_at : (xs : List E) (e : E) → Contains xs e → (before : List E) × (later : List E) × (xs ≡ before ++ e ∷ later)
  split_at [] e is = absurd (contains_none e is)
  split_at (x ∷ xs) e is = elim (contains_cases x xs e is) [
    | inl same ↦ ([], xs, ap (λ (z : E). z ∷ xs) same)
    | inr rest ↦ let s = split_at xs e rest in (x ∷ s.0, s.1, ap (λ (l : List E). x ∷ l) s.2)
  ]

-- what a function gives of the items of a list
module _ {X Y : Type 0} (f : X → Option Y) where
  abbrev Source : List X → Y → Type 0
  Source xs y = (x : X) × Contains xs x × (f x ≡ Some y)

  later : (x : X) (xs : List X) (y : Y) → Source xs y → Source (x ∷ xs) y
  later x xs y found = (found.0, contains_tail x xs found.0 found.1, found.2)

  first_or : (x : X) (xs : List X) (y : Y) → (Contains (filter_map f xs) y → Source xs y) → (o : Option Y) → f x ≡ o → Contains (cons_option o (filter_map f xs)) y → Source (x ∷ xs) y
  first_or x xs y rest None at is = later x xs y (rest is)
  first_or x xs y rest (Some z) at is =
      elim (contains_cases z (filter_map f xs) y is) [ inl same ↦ (x, contains_head x xs, subst (λ (v : Y). f x ≡ Some v) same at) | inr in_rest ↦ later x xs y (rest in_rest) ]

  pub picked_from : (xs : List X) (y : Y) → Contains (filter_map f xs) y → Source xs y
  picked_from [] y is = absurd (contains_none y is)
  picked_from (x ∷ xs) y is = first_or x xs y (picked_from xs y) (f x) refl is

-- and what it gives of an item stands there
module _ {X Y : Type 0} (f : X → Option Y) where
  at_head : (o : Option Y) (ys : List Y) (y : Y) → o ≡ Some y → Contains (cons_option o ys) y
  at_head None ys y is = absurd (let no : ⊥ = cc in no)
  at_head (Some z) ys y is = let same : z ≡ y = cc in subst (λ (v : Y). Contains (z ∷ ys) v) same (contains_head z ys)

  behind : (o : Option Y) (ys : List Y) (y : Y) → Contains ys y → Contains (cons_option o ys) y
  behind None ys y is = is
  behind (Some z) ys y is = contains_tail z ys y is

  pub picked_in : (xs : List X) (x : X) (y : Y) → Contains xs x → f x ≡ Some y → Contains (filter_map f xs) y
  picked_in [] x y is at = absurd (contains_none x is)
  picked_in (z ∷ zs) x y is at = elim (contains_cases z zs x is) [
    | inl same ↦ at_head (f z) (filter_map f zs) y (ap f same ∙ at)
    | inr rest ↦ behind (f z) (filter_map f zs) y (picked_in zs x y rest at)
  ]
