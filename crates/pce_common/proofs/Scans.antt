-- Lists looked through one by one.
use Rattle.std.proofs.Common.{◌≡◌, ◌<◌, ◌+◌, ◌-◌, ℕ, zero, suc, Bool, true, false, cond, Option, Some, None, List, [], ◌∷◌, length, drop, map, arith, refl, ◌∙◌, ap}
use Rattle.std.specs.Prelude.{slice_get, filter, OnSome}
use Rattle.pce_common.proofs.HeldPlaces.{dropped_at}

pub dropped_next : {X : Type 0} (xs : List X) (k : ℕ) (x : X) → slice_get xs k ≡ Some x → drop k xs ≡ x ∷ drop (k + 1) xs
dropped_next xs k x at = dropped_at xs k x at ∙ ap (λ (j : ℕ). x ∷ drop j xs) (let e : suc k ≡ k + 1 = omega arith in e)

-- a place has an element
pub there_is : {X : Type 0} (xs : List X) (k : ℕ) → k < length xs → (x : X) × (slice_get xs k ≡ Some x)
there_is [] k within = absurd (omega (arith, within))
there_is (x ∷ xs) zero within = (x, refl)
there_is (x ∷ xs) (suc k) within = there_is xs k (omega (arith, within))

-- ---- those that pass a test, by their names

abbrev picked : {X : Type 0} → (X → Bool) → (X → ℕ) → List X → List ℕ
picked p name xs = map name (filter p xs)

pub picked_here : {X : Type 0} (p : X → Bool) (name : X → ℕ) (k : ℕ) (xs : List X) (x : X) → slice_get xs k ≡ Some x → p x ≡ true → slice_get (map name (filter p (drop k xs))) 0 ≡ Some (name x)
picked_here {X} p name k xs x at is =
    ap (λ (ys : List X). slice_get (picked p name ys) 0) (dropped_next xs k x at)
    ∙ ap (λ (b : Bool). slice_get (map name (cond b (x ∷ filter p (drop (k + 1) xs)) (filter p (drop (k + 1) xs)))) 0) is

pub picked_next : {X : Type 0} (p : X → Bool) (name : X → ℕ) (k left : ℕ) (xs : List X) (x : X) → slice_get xs k ≡ Some x → p x ≡ true → 0 < left →
    slice_get (map name (filter p (drop k xs))) left ≡ slice_get (map name (filter p (drop (k + 1) xs))) (left - 1)
picked_next p name k zero xs x at is some = absurd (omega (arith, some))
picked_next {X} p name k (suc n) xs x at is some =
    ap (λ (ys : List X). slice_get (picked p name ys) (suc n)) (dropped_next xs k x at)
    ∙ ap (λ (b : Bool). slice_get (map name (cond b (x ∷ filter p (drop (k + 1) xs)) (filter p (drop (k + 1) xs)))) (suc n)) is
    ∙ ap (λ (j : ℕ). slice_get (picked p name (drop (k + 1) xs)) j) (let e : n ≡ suc n - 1 = omega arith in e)

pub picked_more : {X : Type 0} (p : X → Bool) (name : X → ℕ) (k left : ℕ) (xs : List X) (x : X) → slice_get xs k ≡ Some x → p x ≡ false →
    slice_get (map name (filter p (drop k xs))) left ≡ slice_get (map name (filter p (drop (k + 1) xs))) left
picked_more {X} p name k left xs x at is =
    ap (λ (ys : List X). slice_get (picked p name ys) left) (dropped_next xs k x at)
    ∙ ap (λ (b : Bool). slice_get (map name (cond b (x ∷ filter p (drop (k + 1) xs)) (filter p (drop (k + 1) xs)))) left) is

-- ---- what is said of one that is there

pub on_some : {A : Type 0} (o : Option A) (x : A) (P : Type 0) → o ≡ Some x → OnSome o P → P
on_some None x P is p = absurd (let no : None ≡ Some x = is in cc)
on_some (Some y) x P is p = p
