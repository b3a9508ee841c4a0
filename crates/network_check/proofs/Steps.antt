-- Rows of a topology that are looked at one by one.
use Rattle.std.proofs.Common.{◌≡◌, ◌∙◌, ◌+◌, ◌||◌, ℕ, Bool, true, false, List, ◌∷◌, drop, slice_get, Some, ap, sym}
use Rattle.std.specs.List.{list_any}
use Rattle.std.proofs.lemmas.List.{drop_more}
use Rattle.std.proofs.lemmas.Option.{get_or_from_slice_get, slice_get_within}

module _ {X : Type 0} (test : X → Bool) (xs : List X) (i : ℕ) (x : X) (there : slice_get xs i ≡ Some x) where
  left : drop i xs ≡ x ∷ drop (i + 1) xs
  left = drop_more xs i x (slice_get_within xs i x there) ∙ ap (λ (y : X). y ∷ drop (i + 1) xs) (get_or_from_slice_get xs i x x there)

  one_more : list_any test (drop i xs) ≡ test x || list_any test (drop (i + 1) xs)
  one_more = ap (list_any test) left

  pub one_is : test x ≡ true → list_any test (drop i xs) ≡ true
  one_is is = one_more ∙ ap (λ (b : Bool). b || list_any test (drop (i + 1) xs)) is

  pub one_is_not : test x ≡ false → list_any test (drop (i + 1) xs) ≡ list_any test (drop i xs)
  one_is_not is = sym (one_more ∙ ap (λ (b : Bool). b || list_any test (drop (i + 1) xs)) is)
