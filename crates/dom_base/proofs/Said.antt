-- What rows in rising order say of addresses.
use Rattle.std.proofs.Common.{◌≡◌, ◌∙◌, inl, inr, ℕ, zero, suc, ◌<◌, List, [], ◌∷◌, length, get_or, Result, Ok, Err, MatchResult, refl, sym, ap, arith}
use Rattle.std.specs.Prelude.{AllPairs}
use Rattle.std.specs.List.Sorted.{IsSearchInRange, IsBinarySearchResult}
use Rattle.std.specs.Ordering.{nat_cmp, on}
use Rattle.std.proofs.lemmas.Bool.Decides.{eqb_tells}
use Rattle.std.proofs.lemmas.Option.{get_or_from_slice_get, slice_get-get_or}
use Rattle.dom_base.specs.AddrOrder.{rank}
use Rattle.dom_base.specs.AddrRows.{said_of}
use Rattle.dom_base.specs.declared.addr.Addr.{Addr}
use Rattle.dom_base.proofs.Ranks.{same_addr}
use Rattle.dom_base.proofs.Searching.{searched, rising}

-- nothing is said of an address that no row names
pub said_absent : {V : Type 0} (nothing : V) (rows : List (Addr × V)) (n : Addr) → ((k : ℕ) (d : Addr × V) → k < length rows → rank (get_or rows k d).0 ≡ rank n → ⊥) →
    said_of nothing rows n ≡ nothing
said_absent nothing [] n none = refl
said_absent nothing (row ∷ rows) n none =
    elim (eqb_tells (rank row.0) (rank n)) [
      | inl t ↦ absurd (none 0 row (omega arith) t.1)
      | inr f ↦ rw f.0 (said_absent nothing rows n (λ k d below is. none (suc k) d (omega arith) is))
    ]

-- what the row that names it says
pub said_present : {V : Type 0} (nothing : V) (rows : List (Addr × V)) (n : Addr) (i : ℕ) (d : Addr × V) → AllPairs (λ a b. rank a.0 < rank b.0) rows → i < length rows →
    rank (get_or rows i d).0 ≡ rank n → said_of nothing rows n ≡ (get_or rows i d).1
said_present nothing [] n i d up below is = absurd (omega arith)
said_present nothing (row ∷ rows) n zero d up below is = elim (eqb_tells (rank row.0) (rank n)) [ inl t ↦ rw t.0 refl | inr f ↦ absurd (f.1 is) ]
said_present nothing (row ∷ rows) n (suc i) d up below is =
    let inside : i < length rows = omega arith in
    let less : rank row.0 < rank (get_or rows i d).0 = up 0 (suc i) d (omega arith) below in
    elim (eqb_tells (rank row.0) (rank n)) [
      | inl t ↦ absurd (omega (arith, less, t.1, is))
      | inr f ↦ rw f.0 (said_present nothing rows n i d (λ j k e before within. up (suc j) (suc k) e (omega arith) (omega arith)) inside is)
    ]

abbrev key : {V : Type 0} → Addr × V → Addr
key row = row.0

-- what a binary search finds is what is said
pub said_found : {V : Type 0} (nothing : V) (rows : List (Addr × V)) (n : Addr) (r : Result ℕ ℕ) → AllPairs (λ a b. rank a.0 < rank b.0) rows → IsSearchInRange r (length rows) →
    IsBinarySearchResult (λ row. on rank nat_cmp row.0 n) rows r → MatchResult r (λ i. (d : Addr × V) → (get_or rows i d).1 ≡ said_of nothing rows n) (λ _. nothing ≡ said_of nothing rows n)
said_found {V} nothing rows n (Ok i) up inside equal =
    let found = searched key rows (rising key rows up) n (Ok i) inside equal in
    λ d.
    let is : get_or rows i d ≡ found.0 = get_or_from_slice_get rows i found.0 d found.1 in
    sym (said_present nothing rows n i d up inside (ap (λ (row : Addr × V). rank row.0) is ∙ ap rank found.2))
said_found nothing rows n (Err i) up inside parted =
    let none = searched key rows (rising key rows up) n (Err i) inside parted in
    sym (said_absent nothing rows n (λ k d below same. none k (get_or rows k d) (slice_get-get_or rows k d below) (same_addr (get_or rows k d).0 n same)))
