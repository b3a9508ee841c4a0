-- Lists that are joined, mapped, or made by `filter_map`: what stands in them, and in which order.
use Rattle.std.proofs.Common.{◌≡◌, inl, inr, suc, List, [], ◌∷◌, ◌++◌, map, get_or, arith, ◌∙◌, ap, subst, Some, None, refl}
use Rattle.std.specs.Prelude.{All, AllPairs, Contains}
use Rattle.std.specs.List.{filter_map, cons_option}
use Rattle.std.specs.declared.option.Option.{Option}
use Rattle.std.proofs.lemmas.List.{get_or-map, length-map}
use Rattle.std.proofs.lemmas.List.Elements.{All-append, Contains-append_left, Contains-append_right, Contains-append_cases, Contains-push, Contains-push_cases, Contains-get_or}
use Rattle.std.proofs.lemmas.List.Kept.{AllPairs-cons}

pub one_of : {X : Type 0} (x y : X) → Contains (x ∷ []) y → x ≡ y
one_of x y has = elim (Contains-push_cases [] x y has) [ inl nothing ↦ absurd (omega (arith, nothing.1)) | inr is ↦ is ]

first_in : {X : Type 0} (x : X) (xs : List X) → Contains (x ∷ xs) x
first_in x xs = Contains-append_left (x ∷ []) xs x (Contains-push [] x)

later_in : {X : Type 0} (x : X) (xs : List X) (y : X) → Contains xs y → Contains (x ∷ xs) y
later_in x xs y has = Contains-append_right (x ∷ []) xs y has

pub mapped : {X Y : Type 0} (f : X → Y) (xs : List X) (x : X) → Contains xs x → Contains (map f xs) (f x)
mapped f xs x has = (has.0, omega (arith, has.1, length-map xs f), get_or-map f xs has.0 x (f x) has.1 ∙ ap f has.2)

pub unmapped : {X Y : Type 0} (f : X → Y) (xs : List X) (y : Y) → Contains (map f xs) y → (x : X) × Contains xs x × (f x ≡ y)
unmapped f [] y has = absurd (omega (arith, has.1))
unmapped f (x ∷ xs) y has =
    elim (Contains-append_cases (f x ∷ []) (map f xs) y has) [
      | inl here ↦ (x, first_in x xs, one_of (f x) y here)
      | inr there ↦ (let found = unmapped f xs y there in (found.0, later_in x xs found.0 found.1, found.2))
    ]

pub pairs_unmapped : {X Y : Type 0} (R : Y → Y → Type 0) (f : X → Y) (xs : List X) → AllPairs R (map f xs) → AllPairs (λ x y. R (f x) (f y)) xs
pairs_unmapped R f xs pairs i j d before below =
    let first = get_or-map f xs i d (f d) (omega arith) in
    let second = get_or-map f xs j d (f d) below in
    let is = pairs i j (f d) before (omega (arith, length-map xs f)) in
    subst (λ y. R (f (get_or xs i d)) y) second (subst (λ y. R y (get_or (map f xs) j (f d))) first is)

-- what is picked comes from an element
pub picked_from : {X Y : Type 0} (h : X → Option Y) (xs : List X) (y : Y) → Contains (filter_map h xs) y → (x : X) × Contains xs x × (h x ≡ Some y)
picked_from h [] y has = absurd (omega (arith, has.1))
picked_from {X} {Y} h (x ∷ xs) y has = go (λ there. picked_from h xs y there) (h x) refl has
  where
    later : (Contains (filter_map h xs) y → (z : X) × Contains xs z × (h z ≡ Some y)) → Contains (filter_map h xs) y → (z : X) × Contains (x ∷ xs) z × (h z ≡ Some y)
    later from there = let found = from there in (found.0, later_in x xs found.0 found.1, found.2)

    go : (Contains (filter_map h xs) y → (z : X) × Contains xs z × (h z ≡ Some y)) → (o : Option Y) → h x ≡ o → Contains (cons_option o (filter_map h xs)) y →
        (z : X) × Contains (x ∷ xs) z × (h z ≡ Some y)
    go from None is there = later from there
    go from (Some z) is there =
        elim (Contains-append_cases (z ∷ []) (filter_map h xs) y there) [
          | inl here ↦ (x, first_in x xs, is ∙ ap Some (one_of z y here))
          | inr past ↦ later from past
        ]

-- and what an element gives is picked
pub picked : {X Y : Type 0} (h : X → Option Y) (xs : List X) (x : X) (y : Y) → Contains xs x → h x ≡ Some y → Contains (filter_map h xs) y
picked h [] x y has is = absurd (omega (arith, has.1))
picked {X} {Y} h (z ∷ xs) x y has is =
    elim (Contains-append_cases (z ∷ []) xs x has) [
      | inl here ↦ rw (ap h (one_of z x here) ∙ is) (first_in y (filter_map h xs))
      | inr there ↦ past (h z) (picked h xs x y there is)
    ]
  where
    past : (o : Option Y) → Contains (filter_map h xs) y → Contains (cons_option o (filter_map h xs)) y
    past None there = there
    past (Some w) there = later_in w (filter_map h xs) y there

-- in the order of the elements
pub picked_all : {X Y : Type 0} (P : X → Type 0) (Q : Y → Type 0) (h : X → Option Y) → ((x : X) (y : Y) → P x → h x ≡ Some y → Q y) →
    (xs : List X) → All P xs → All Q (filter_map h xs)
picked_all P Q h gives xs all k d below =
    let ys = filter_map h xs in
    let found = picked_from h xs (get_or ys k d) (Contains-get_or ys k d below) in
    let has = found.1 in
    gives found.0 (get_or ys k d) (subst P has.2 (all has.0 found.0 has.1)) found.2

pub picked_pairs : {X Y : Type 0} (R : X → X → Type 0) (S : Y → Y → Type 0) (h : X → Option Y) →
    ((x z : X) (y w : Y) → R x z → h x ≡ Some y → h z ≡ Some w → S y w) → (xs : List X) → AllPairs R xs → AllPairs S (filter_map h xs)
picked_pairs R S h gives [] pairs = λ i j d before below. absurd (omega (arith, below))
picked_pairs {X} {Y} R S h gives (x ∷ xs) pairs = go (picked_pairs R S h gives xs (λ i j d before below. pairs (suc i) (suc j) d (omega arith) (omega arith))) (h x) refl
  where
    go : AllPairs S (filter_map h xs) → (o : Option Y) → h x ≡ o → AllPairs S (cons_option o (filter_map h xs))
    go rest None is = rest
    go rest (Some y) is =
        AllPairs-cons S y (filter_map h xs)
        (picked_all (R x) (S y) h (λ z w related at. gives x z y w related is at) xs (λ k d below. pairs 0 (suc k) d (omega arith) (omega arith)))
        rest

-- pairs within each of two lists, and across them
pub pairs_joined : {X : Type 0} (R : X → X → Type 0) (xs ys : List X) → AllPairs R xs → AllPairs R ys → ((x y : X) → Contains xs x → Contains ys y → R x y) → AllPairs R (xs ++ ys)
pairs_joined R [] ys first second across = second
pairs_joined R (x ∷ xs) ys first second across =
    AllPairs-cons R x (xs ++ ys)
    (All-append (R x) xs ys (λ k d below. first 0 (suc k) d (omega arith) (omega arith)) (λ k d below. across x (get_or ys k d) (first_in x xs) (Contains-get_or ys k d below)))
    (pairs_joined R xs ys (λ i j d before below. first (suc i) (suc j) d (omega arith) (omega arith)) second (λ z y has there. across z y (later_in x xs z has) there))
