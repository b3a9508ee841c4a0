-- The place that a search finds among numbers that rise.
use Rattle.std.proofs.Common.{◌≡◌, ◌∙◌, ◌<◌, ◌≤◌, ℕ, List, Result, Ok, Err, MatchResult, length, get_or, inl, inr, sym, ap, arith}
use Rattle.std.specs.Prelude.{AllPairs}
use Rattle.std.specs.List.Sorted.{IsSearchInRange, IsBinarySearchResult, IsNonDecreasingBy}
use Rattle.std.specs.Ordering.{nat_cmp, ordering_index}
use Rattle.std.proofs.lemmas.Cmp.{ranked}
use Rattle.std.proofs.lemmas.Bool.{cases_lt}
use Rattle.std.proofs.lemmas.Bool.Decides.{nat_tests}
use Rattle.std.proofs.lemmas.Option.{get_or_from_slice_get, slice_get_within}
use Rattle.dom_base.proofs.Searching.{row_at}
use Rattle.request_table.specs.declared.rows.Place.{Place}
use Rattle.request_table.specs.Rows.{HasNoPlace, IsPlaceOf}

module _ (places : List Place) (up : AllPairs (λ (p q : Place). p.number < q.number) places) (number : ℕ) where
  -- the comparisons with a number rise along the places
  comparisons_rise : IsNonDecreasingBy (λ (p : Place). ordering_index (nat_cmp p.number number)) places
  comparisons_rise i j d le below =
      let rise : (get_or places i d).number ≤ (get_or places j d).number =
      elim (cases_lt i j) [ inl lt ↦ omega (arith, up i j d lt below) | inr ge ↦ (let same : i ≡ j = omega arith in omega (arith, ap (λ k. (get_or places k d).number) same)) ] in
      grind (arith, nat_tests)

  -- the place of the number, or there is none
  pub searched : (r : Result ℕ ℕ) → IsSearchInRange r (length places) → IsBinarySearchResult (λ (p : Place). nat_cmp p.number number) places r →
      MatchResult r (IsPlaceOf places number) (λ i. HasNoPlace places number)
  searched (Ok i) inside equal =
      let row = row_at places i inside in
      let at_row : get_or places i row.0 ≡ row.0 = get_or_from_slice_get places i row.0 row.0 row.1 in
      record {
        within = inside;
        place = row.0;
        at_place = row.1;
        is = ap (λ (p : Place). p.number) (sym at_row) ∙ ranked _ number _ (sym (equal row.0));
      }
  searched (Err i) inside parted = λ k p at is.
      let below = slice_get_within places k p at in
      let same : (get_or places k p).number ≡ number = ap (λ (q : Place). q.number) (get_or_from_slice_get places k p p at) ∙ is in
      elim (cases_lt k i) [
        | inl lt ↦ let less : (get_or places k p).number < number = ranked _ number _ (sym ((parted comparisons_rise).0 k p (omega arith) lt)) in omega arith
        | inr ge ↦ let more : number < (get_or places k p).number = ranked _ number _ (sym ((parted comparisons_rise).1 k p ge below)) in omega arith
      ]
