-- A list that is cut at its first element that passes a test.
use Rattle.std.proofs.Common.{◌≡◌, ℕ, suc, ◌+◌, ◌<◌, ◌≤◌, ltb, Bool, true, false, not, cond, List, [], ◌∷◌, length, take, drop, Some, None, refl, ap, ◌∙◌, arith}
use Rattle.std.specs.List.{slice_split, onto_first, position_or_len, position, prefix_len}
use Rattle.std.proofs.lemmas.Bool.{ltb-true, ltb-false}
use Rattle.std.proofs.lemmas.List.Splits.{slice_split_first}

some_is : {X : Type 0} (b : Bool) (x y : X) → cond b (Some x) None ≡ Some y → (b ≡ true) × (x ≡ y)
some_is true x y e = (refl, cc)
some_is false x y e = absurd (cc)

none_is : {X : Type 0} (b : Bool) (x : X) → cond b (Some x) None ≡ None → b ≡ false
none_is true x e = absurd (cc)
none_is false x e = refl

passed_at_once : {X : Type 0} (p : X → Bool) (x : X) (xs : List X) → p x ≡ true → prefix_len (λ x. not (p x)) (x ∷ xs) ≡ 0
passed_at_once p x xs e = rw e refl

one_more : {X : Type 0} (p : X → Bool) (x : X) (xs : List X) → p x ≡ false → prefix_len (λ x. not (p x)) (x ∷ xs) ≡ 1 + prefix_len (λ x. not (p x)) xs
one_more p x xs e = rw e refl

onto : {X : Type 0} (p : X → Bool) (x : X) (xs : List X) → p x ≡ false → slice_split p xs ≡ xs ∷ [] → slice_split p (x ∷ xs) ≡ (x ∷ xs) ∷ []
onto p x xs e h = rw e (ap (onto_first x) h)

step : {X : Type 0} (p : X → Bool) (x : X) (xs : List X) (b : Bool) → p x ≡ b → suc (length xs) ≤ prefix_len (λ x. not (p x)) (x ∷ xs)
    → (length xs ≤ prefix_len (λ x. not (p x)) xs → slice_split p xs ≡ xs ∷ []) → slice_split p (x ∷ xs) ≡ (x ∷ xs) ∷ []
step p x xs true e le others = absurd (omega (arith, passed_at_once p x xs e))
step p x xs false e le others = onto p x xs e (others (omega (arith, one_more p x xs e)))

whole_if_short : {X : Type 0} (p : X → Bool) (xs : List X) → length xs ≤ prefix_len (λ x. not (p x)) xs → slice_split p xs ≡ xs ∷ []
whole_if_short p [] le = refl
whole_if_short p (x ∷ xs) le = step p x xs (p x) refl le (whole_if_short p xs)

-- nothing passes: the list is the one part
pub uncut : {X : Type 0} (p : X → Bool) (xs : List X) → position p xs ≡ None → slice_split p xs ≡ xs ∷ []
uncut p xs e = whole_if_short p xs (ltb-false (position_or_len p xs) (length xs) (none_is (ltb (position_or_len p xs) (length xs)) (position_or_len p xs) e))

-- the first that passes, at a place
pub record CutAt {X : Type 0} (p : X → Bool) (xs : List X) (k : ℕ) : Type 0 where
  pub within : k < length xs
  pub parts : slice_split p xs ≡ take k xs ∷ slice_split p (drop (k + 1) xs)

pub cut_at : {X : Type 0} (p : X → Bool) (xs : List X) (k : ℕ) (d : X) → position p xs ≡ Some k → CutAt p xs k
cut_at p xs k d e =
    let found = some_is (ltb (position_or_len p xs) (length xs)) (position_or_len p xs) k e in
    let within : position_or_len p xs < length xs = ltb-true (position_or_len p xs) (length xs) found.0 in
    record {
      within = omega (arith, within, found.1);
      parts = slice_split_first p xs d within ∙ ap (λ j. take j xs ∷ slice_split p (drop (j + 1) xs)) found.1;
    }
