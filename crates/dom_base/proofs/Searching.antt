-- What a binary search finds among rows whose addresses rise.
use Rattle.std.proofs.Common.{◌≡◌, ◌∙◌, inl, inr, ℕ, zero, suc, ◌<◌, ◌≤◌, List, [], ◌∷◌, length, get_or, Some, Result, Ok, Err, MatchResult, sym, ap, refl, arith}
use Rattle.std.specs.Prelude.{AllPairs, slice_get}
use Rattle.std.specs.List.Sorted.{IsSearchInRange, IsBinarySearchResult, IsNonDecreasingBy}
use Rattle.std.specs.Ordering.{nat_cmp, on, ordering_index}
use Rattle.std.proofs.lemmas.Cmp.{ranked}
use Rattle.std.proofs.lemmas.Bool.{cases_lt}
use Rattle.std.proofs.lemmas.Bool.Decides.{nat_tests}
use Rattle.std.proofs.lemmas.Option.{get_or_from_slice_get, slice_get_within}
use Rattle.dom_base.specs.AddrOrder.{rank}
use Rattle.dom_base.specs.declared.addr.Addr.{Addr}
use Rattle.dom_base.proofs.Ranks.{same_addr}

-- a row stands at each place of a list
pub row_at : {X : Type 0} (xs : List X) (i : ℕ) → i < length xs → (x : X) × (slice_get xs i ≡ Some x)
row_at [] i below = absurd (omega arith)
row_at (x ∷ xs) zero below = (x, refl)
row_at (x ∷ xs) (suc i) below = row_at xs i (omega arith)

module _ {X : Type 0} (key : X → Addr) (xs : List X) (up : AllPairs (λ x y. rank (key x) ≤ rank (key y)) xs) (addr : Addr) where
  -- the comparisons with an address rise along the rows
  comparisons_rise : IsNonDecreasingBy (λ x. ordering_index (on rank nat_cmp (key x) addr)) xs
  comparisons_rise i j d le below =
      let rise : rank (key (get_or xs i d)) ≤ rank (key (get_or xs j d)) =
      elim (cases_lt i j) [ inl lt ↦ up i j d lt below | inr ge ↦ (let same : i ≡ j = omega arith in omega (arith, ap (λ k. rank (key (get_or xs k d))) same)) ] in
      grind (arith, nat_tests)

  -- a row with the address, or there is none
  pub searched : (r : Result ℕ ℕ) → IsSearchInRange r (length xs) → IsBinarySearchResult (λ x. on rank nat_cmp (key x) addr) xs r →
      MatchResult r (λ i. (x : X) × (slice_get xs i ≡ Some x) × (key x ≡ addr)) (λ i. (k : ℕ) (x : X) → slice_get xs k ≡ Some x → key x ≡ addr → ⊥)
  searched (Ok i) inside equal =
      let row = row_at xs i inside in
      (row.0, row.1, ap key (sym (get_or_from_slice_get xs i row.0 row.0 row.1)) ∙ same_addr (key (get_or xs i row.0)) addr (ranked _ (rank addr) _ (sym (equal row.0))))
  searched (Err i) inside parted = λ k x at is.
      let below = slice_get_within xs k x at in
      let same : rank (key (get_or xs k x)) ≡ rank addr = ap (λ y. rank (key y)) (get_or_from_slice_get xs k x x at) ∙ ap rank is in
      elim (cases_lt k i) [
        | inl lt ↦ let less : rank (key (get_or xs k x)) < rank addr = ranked _ (rank addr) _ (sym ((parted comparisons_rise).0 k x (omega arith) lt)) in omega arith
        | inr ge ↦ let more : rank addr < rank (key (get_or xs k x)) = ranked _ (rank addr) _ (sym ((parted comparisons_rise).1 k x ge below)) in omega arith
      ]

-- addresses that rise strictly rise
pub rising : {X : Type 0} (key : X → Addr) (xs : List X) → AllPairs (λ x y. rank (key x) < rank (key y)) xs → AllPairs (λ x y. rank (key x) ≤ rank (key y)) xs
rising key xs up i j d lt below = omega (arith, up i j d lt below)
