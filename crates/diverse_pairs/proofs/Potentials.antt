-- Rows in rising order, up to a place.
use Rattle.std.proofs.Common.{◌≡◌, inl, inr, ℕ, ◌+◌, ◌-◌, ◌<◌, ◌≤◌, List, length, arith, ap, subst}
use Rattle.std.specs.Prelude.{AllPairs, slice_index_or}
use Rattle.std.proofs.lemmas.Bool.{cases_lt}
use Rattle.std.proofs.lemmas.List.{get_or_default}
use Rattle.dom_base.specs.AddrOrder.{rank}
use Rattle.dom_base.specs.declared.addr.Addr.{Addr}

-- rows that rise up to a place rise one further
pub rise_more : (rows : List (Addr × ℕ)) (i : ℕ) (e : Addr × ℕ) → 1 ≤ i → i < length rows →
    ((j k : ℕ) (d : Addr × ℕ) → j < k → k < i → rank (slice_index_or rows j d).0 < rank (slice_index_or rows k d).0) →
    rank (slice_index_or rows (i - 1) e).0 < rank (slice_index_or rows i e).0 →
    (j k : ℕ) (d : Addr × ℕ) → j < k → k < i + 1 → rank (slice_index_or rows j d).0 < rank (slice_index_or rows k d).0
rise_more rows i e some inside up step j k d before below =
    let here : rank (slice_index_or rows (i - 1) d).0 < rank (slice_index_or rows i d).0 =
    omega (arith, step, ap (λ (row : Addr × ℕ). rank row.0) (get_or_default rows (i - 1) d e (omega arith)), ap (λ (row : Addr × ℕ). rank row.0) (get_or_default rows i d e inside)) in
    elim (cases_lt k i) [
      | inl lt ↦ up j k d before lt
      | inr ge ↦
          let last : i ≡ k = omega arith in
          subst (λ m. rank (slice_index_or rows j d).0 < rank (slice_index_or rows m d).0) last
          (elim (cases_lt j (i - 1)) [
            | inl lt ↦ omega (arith, up j (i - 1) d lt (omega arith), here)
            | inr at_end ↦ let same : i - 1 ≡ j = omega arith in subst (λ m. rank (slice_index_or rows m d).0 < rank (slice_index_or rows i d).0) same here
          ])
    ]

pub rise_not : (rows : List (Addr × ℕ)) (i : ℕ) (e : Addr × ℕ) → 1 ≤ i → i < length rows → AllPairs (λ a b. rank a.0 < rank b.0) rows →
    rank (slice_index_or rows i e).0 ≤ rank (slice_index_or rows (i - 1) e).0 → ⊥
rise_not rows i e some inside up falls = omega (arith, up (i - 1) i e (omega arith) inside, falls)
