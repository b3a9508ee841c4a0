-- Spans in order: which has an address, and what one more span adds.
use Rattle.std.proofs.Common.{◌≡◌, ◌⊎◌, ◌∙◌, ◌<◌, ◌≤◌, ◌+◌, ◌-◌, ◌++◌, ◌∷◌, ◌==◌, cond, ℕ, List, [], length, get_or, take, Bool, true, false, inl, inr, refl, sym, ap, subst, arith}
use Rattle.std.specs.Prelude.{◌↔◌, IsPermutation}
use Rattle.std.specs.List.Sorted.{IsNonDecreasingBy, IsSorted}
use Rattle.std.specs.declared.cmp.Ordering.{Ordering}
use Rattle.std.specs.declared.cmp.Ordering.TheVariants.{Less, Equal, Greater}
use Rattle.std.specs.Ordering.{nat_cmp, is_le, is_lt, ordering_then}
use Rattle.std.proofs.lemmas.Bool.Decides.{nat_tests}
use Rattle.std.proofs.lemmas.Map.Keys.{le_from_is_le}
use Rattle.std.proofs.lemmas.Bool.{cases_lt, lt-ltb}
use Rattle.std.proofs.lemmas.List.Elements.{Contains-get_or, Contains-append_left, Contains-push, Contains-push_cases}
use Rattle.std.proofs.lemmas.List.{get_or_default}
use Rattle.std.proofs.lemmas.List.Sorted.{IsNonDecreasingBy-push, IsNonDecreasingBy-from_all_adjacent, Contains-permutation, IsPermutation-sym}
use Rattle.dom_base.specs.AddrOrder.{rank}
use Rattle.dom_base.specs.declared.addr.Addr.{Addr}
use Rattle.path_constraints.specs.Spans.{IsWithin, Covers, AreRising, IsPlaceOf, LeadsTo}

-- ---- which span has an address

pub covered : (spans : List (Addr × Addr)) (a : Addr) (place : ℕ) (d : Addr × Addr) → IsPlaceOf spans a place → 0 < place → rank a ≤ rank (get_or spans (place - 1) d).1 → Covers spans a
covered spans a place d is some early = record {
  span = get_or spans (place - 1) d;
  is_one = Contains-get_or spans (place - 1) d (omega (arith, is.bound, some));
  within = (is.before d some, early);
}

pub uncovered : (spans : List (Addr × Addr)) (a : Addr) (place : ℕ) → AreRising spans → IsPlaceOf spans a place →
    ((d : Addr × Addr) → 0 < place → rank (get_or spans (place - 1) d).1 < rank a) → Covers spans a → ⊥
uncovered spans a place rising is late has =
    let d = has.span in
    let i : ℕ = has.is_one.0 in
    let below : i < length spans = has.is_one.1 in
    let this : get_or spans i d ≡ d = has.is_one.2 in
    let first : rank (get_or spans i d).0 ≡ rank d.0 = ap (λ (s : Addr × Addr). rank s.0) this in
    let last : rank (get_or spans i d).1 ≡ rank d.1 = ap (λ (s : Addr × Addr). rank s.1) this in
    elim (cases_lt i place) [
      | inl lt ↦
          let up : rank (get_or spans i d).1 ≤ rank (get_or spans (place - 1) d).1 = rising.lasts i (place - 1) d (omega (arith, lt)) (omega (arith, is.bound, lt)) in
          let less : rank (get_or spans (place - 1) d).1 < rank a = late d (omega (arith, lt)) in
          omega (arith, last, up, less, has.within.1)
      | inr ge ↦
          let up : rank (get_or spans place d).0 ≤ rank (get_or spans i d).0 = rising.firsts place i d ge below in
          let more : rank a < rank (get_or spans place d).0 = is.behind d (omega (arith, ge, below)) in
          omega (arith, first, up, more, has.within.0)
    ]

-- ---- one more span

pub covers_push : (spans : List (Addr × Addr)) (span : Addr × Addr) (a : Addr) → Covers (spans ++ span ∷ []) a ↔ (Covers spans a ⊎ IsWithin a span)
covers_push spans span a = (forth, back)
  where
    forth : Covers (spans ++ span ∷ []) a → Covers spans a ⊎ IsWithin a span
    forth has = elim (Contains-push_cases spans span has.span has.is_one) [
      | inl old ↦ inl (record { span = has.span; is_one = old; within = has.within })
      | inr same ↦ inr (subst (IsWithin a) (sym same) has.within)
    ]

    back : Covers spans a ⊎ IsWithin a span → Covers (spans ++ span ∷ []) a
    back (inl has) = record { span = has.span; is_one = Contains-append_left spans (span ∷ []) has.span has.is_one; within = has.within }
    back (inr within) = record { span = span; is_one = Contains-push spans span; within = within }

-- a span that ends no later than the last one adds nothing
pub covers_still : (spans : List (Addr × Addr)) (span : Addr × Addr) (a : Addr) → 0 < length spans → LeadsTo spans span → rank span.1 ≤ rank (get_or spans (length spans - 1) span).1 →
    Covers spans a ↔ (Covers spans a ⊎ IsWithin a span)
covers_still spans span a some leads early = (λ has. inl has, back)
  where
    back : Covers spans a ⊎ IsWithin a span → Covers spans a
    back (inl has) = has
    back (inr within) = record {
      span = get_or spans (length spans - 1) span;
      is_one = Contains-get_or spans (length spans - 1) span (omega (arith, some));
      within = (omega (arith, leads some, within.0), omega (arith, early, within.1));
    }

pub rising_push : (spans : List (Addr × Addr)) (span : Addr × Addr) → AreRising spans → LeadsTo spans span →
    (0 < length spans → rank (get_or spans (length spans - 1) span).1 ≤ rank span.1) → AreRising (spans ++ span ∷ [])
rising_push spans span rising leads later = record {
  firsts = IsNonDecreasingBy-push (λ (s : Addr × Addr). rank s.0) spans span rising.firsts (λ d some. first d some (leads some));
  lasts = IsNonDecreasingBy-push (λ (s : Addr × Addr). rank s.1) spans span rising.lasts (λ d some. last d some (later some));
}
  where
    first : (d : Addr × Addr) → 0 < length spans → rank (get_or spans (length spans - 1) span).0 ≤ rank span.0 → rank (get_or spans (length spans - 1) d).0 ≤ rank span.0
    first d some le = subst (λ (s : Addr × Addr). rank s.0 ≤ rank span.0) (get_or_default spans (length spans - 1) span d (omega (arith, some))) le

    last : (d : Addr × Addr) → 0 < length spans → rank (get_or spans (length spans - 1) span).1 ≤ rank span.1 → rank (get_or spans (length spans - 1) d).1 ≤ rank span.1
    last d some le = subst (λ (s : Addr × Addr). rank s.1 ≤ rank span.1) (get_or_default spans (length spans - 1) span d (omega (arith, some))) le

-- ---- comparisons

pub is_early : (a b : ℕ) → is_le (nat_cmp a b) ≡ true → a ≤ b
is_early a b is = le_from_is_le a b is

pub is_late : (a b : ℕ) → is_le (nat_cmp a b) ≡ false → b < a
is_late a b is = elim (cases_lt b a) [
  | inl less ↦ less
  | inr ge ↦ absurd (let is_so : is_le (nat_cmp a b) ≡ true = grind (arith, nat_tests) in let bad : true ≡ false = sym is_so ∙ is in cc)
]

pub found : (spans : List (Addr × Addr)) (a : Addr) (place : ℕ) (d : Addr × Addr) (b : Bool) → AreRising spans → IsPlaceOf spans a place → 0 < place →
    b ≡ is_le (nat_cmp (rank a) (rank (get_or spans (place - 1) d).1)) → (b ≡ true) ↔ Covers spans a
found spans a place d true rising is some test = (λ _. covered spans a place d is some (is_early _ _ (sym test)), λ _. refl)
found spans a place d false rising is some test = (
  λ no_truth. absurd (let bad : false ≡ true = no_truth in cc),
  λ has. absurd (uncovered spans a place rising is (λ e some'.
      subst (λ (s : Addr × Addr). rank s.1 < rank a) (get_or_default spans (place - 1) d e (omega (arith, is.bound, some))) (is_late _ _ (sym test))) has),
)

-- ---- spans that were sorted

no_lower : (m n : ℕ) (o : Ordering) → is_lt (ordering_then (nat_cmp m n) o) ≡ false → n ≤ m
no_lower m n o is = elim (cases_lt m n) [
  | inl less ↦ absurd (
      let first : nat_cmp m n ≡ Less = ap (λ (b : Bool). cond b Less (cond (m == n) Equal Greater)) (lt-ltb m n less) in
      let bad : true ≡ false = sym (ap (λ (r : Ordering). is_lt (ordering_then r o)) first) ∙ is in cc)
  | inr ge ↦ ge
]

pub firsts_rise : (spans : List (Addr × Addr)) → IsSorted (λ x y. ordering_then (nat_cmp (rank x.0) (rank y.0)) (nat_cmp (rank x.1) (rank y.1))) spans → IsNonDecreasingBy (λ span. rank span.0) spans
firsts_rise spans sorted = IsNonDecreasingBy-from_all_adjacent (λ (s : Addr × Addr). rank s.0) spans
    (λ k d below. no_lower (rank (get_or spans (k + 1) d).0) (rank (get_or spans k d).0) (nat_cmp (rank (get_or spans (k + 1) d).1) (rank (get_or spans k d).1)) (sorted k d (omega arith) below))

pub covers_moved : (spans others : List (Addr × Addr)) (a : Addr) → IsPermutation spans others → Covers others a ↔ Covers spans a
covers_moved spans others a moved = (
  λ has. record { span = has.span; is_one = Contains-permutation others spans has.span (IsPermutation-sym spans others moved) has.is_one; within = has.within },
  λ has. record { span = has.span; is_one = Contains-permutation spans others has.span moved has.is_one; within = has.within },
)

-- ---- spans one after another

pub leads_on : (kept : List (Addr × Addr)) (span next : Addr × Addr) → LeadsTo kept span → rank span.0 ≤ rank next.0 → LeadsTo kept next
leads_on kept span next leads le some =
    let same : get_or kept (length kept - 1) span ≡ get_or kept (length kept - 1) next = get_or_default kept (length kept - 1) span next (omega (arith, some)) in
    let first : rank (get_or kept (length kept - 1) span).0 ≡ rank (get_or kept (length kept - 1) next).0 = ap (λ (s : Addr × Addr). rank s.0) same in
    omega (arith, first, leads some, le)

pub covers_more : (spans kept more : List (Addr × Addr)) (i : ℕ) (span : Addr × Addr) (a : Addr) → take (i + 1) spans ≡ take i spans ++ span ∷ [] →
    Covers kept a ↔ Covers (take i spans) a → Covers more a ↔ (Covers kept a ⊎ IsWithin a span) → Covers more a ↔ Covers (take (i + 1) spans) a
covers_more spans kept more i span a next before adds = (
  λ has. subst (λ (ss : List (Addr × Addr)). Covers ss a) (sym next) ((covers_push (take i spans) span a).1 (forth (adds.0 has))),
  λ has. adds.1 (back ((covers_push (take i spans) span a).0 (subst (λ (ss : List (Addr × Addr)). Covers ss a) next has))),
)
  where
    forth : Covers kept a ⊎ IsWithin a span → Covers (take i spans) a ⊎ IsWithin a span
    forth (inl has) = inl (before.0 has)
    forth (inr within) = inr within

    back : Covers (take i spans) a ⊎ IsWithin a span → Covers kept a ⊎ IsWithin a span
    back (inl has) = inl (before.1 has)
    back (inr within) = inr within
