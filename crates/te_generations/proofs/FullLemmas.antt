-- A full shelf by the different generations that are live.
use Rattle.std.proofs.Common.{◌≡◌, ◌≢◌, ◌⊎◌, ◌≤◌, ◌<◌, ◌+◌, ◌-◌, ◌^◌, ℕ, Bool, true, false, List, [], ◌∷◌, length, map, nat_eq, sym, ◌∙◌, ap, inl, inr, refl, arith}
use Rattle.std.specs.Set.{is_member}
use Rattle.std.specs.List.{IsDistinct, AllByRecursion}
use Rattle.std.proofs.lemmas.Bool.{cases_eq}
use Rattle.std.proofs.lemmas.Bool.Decides.{Decides-eqb}
use Rattle.std.proofs.lemmas.Cmp.{nat_eq_equiv}
use Rattle.std.proofs.lemmas.List.{length-map}
use Rattle.std.proofs.lemmas.Map.Made.{IsDistinct-from_AllPairs, is_member-Decides, length-from_same_keys}
use Rattle.te_generations.specs.Shelf.{Generation, Shelf, IsShelf, IsFull, live_most, ArePinned, pins_among, pins_of}
use Rattle.te_generations.specs.Runs.{AreLive, FullByNumbers}
use Rattle.te_generations.proofs.ShelfLemmas.{test_false, test_true}
use Rattle.te_generations.proofs.RunLemmas.{below_bound}

abbrev numbers_of : {T : Type 0} → List (Generation T) → List ℕ
numbers_of gs = map (λ g. g.number) gs

-- a number among the older ones is pinned, and the other way round
pub pinned_member : {T : Type 0} (n : ℕ) (gs : List (Generation T)) → 1 ≤ pins_among n gs → is_member nat_eq (numbers_of gs) n ≡ true
pinned_member n [] some = absurd (omega (arith, some))
pinned_member n (g ∷ gs) some =
    elim (cases_eq g.number n) [
      | inl same ↦ rw (test_true n g.number (sym same)) refl
      | inr other ↦ rw (test_false n g.number (λ is. other (sym is))) (pinned_member n gs (rw (test_false g.number n other) at some))
    ]

pub member_pinned : {T : Type 0} (n low high : ℕ) (gs : List (Generation T)) → ArePinned low gs high → is_member nat_eq (numbers_of gs) n ≡ true → 1 ≤ pins_among n gs
member_pinned n low high [] pinned is = absurd (let wrong : false ≡ true = is in cc)
member_pinned n low high (g ∷ gs) pinned is =
    elim (cases_eq g.number n) [
      | inl same ↦ rw (test_true g.number n same) pinned.1
      | inr other ↦ rw (test_false g.number n other) (member_pinned n (g.number + 1) high gs pinned.2 (rw (test_false n g.number (λ e. other (sym e))) at is))
    ]

none_lower : {T : Type 0} (n low high : ℕ) (gs : List (Generation T)) → ArePinned low gs high → n < low → AllByRecursion (λ m. nat_eq n m ≡ false) (numbers_of gs)
none_lower n low high [] pinned below = tt
none_lower n low high (g ∷ gs) pinned below = (test_false n g.number (λ e. omega (arith, e, pinned.0)), none_lower n (g.number + 1) high gs pinned.2 (omega (arith, pinned.0)))

none_higher : {T : Type 0} (low high : ℕ) (gs : List (Generation T)) → ArePinned low gs high → AllByRecursion (λ m. nat_eq high m ≡ false) (numbers_of gs)
none_higher low high [] pinned = tt
none_higher low high (g ∷ gs) pinned = (
  test_false high g.number (λ e. omega (arith, e, below_bound g.number low high (g ∷ gs) pinned (rw (test_true g.number g.number refl) pinned.1))),
  none_higher (g.number + 1) high gs pinned.2,
)

older_differ : {T : Type 0} (low high : ℕ) (gs : List (Generation T)) → ArePinned low gs high → IsDistinct nat_eq (numbers_of gs)
unfolding IsDistinct
older_differ low high [] pinned = tt
older_differ low high (g ∷ gs) pinned = (none_lower g.number (g.number + 1) high gs pinned.2 (omega arith), older_differ (g.number + 1) high gs pinned.2)

abbrev live_of : {T : Type 0} → Shelf T → List ℕ
live_of s = s.current.number ∷ numbers_of s.older

live_differ : {T : Type 0} (s : Shelf T) → IsShelf s → IsDistinct nat_eq (live_of s)
unfolding IsDistinct
live_differ s is = (none_higher 0 s.current.number s.older is.older, older_differ 0 s.current.number s.older is.older)

same_tests : (a b : Bool) → (a ≡ true → b ≡ true) → (b ≡ true → a ≡ true) → a ≡ b
same_tests true true to from = refl
same_tests false false to from = refl
same_tests true false to from = sym (to refl)
same_tests false true to from = from refl

live_member : {T : Type 0} (s : Shelf T) (n : ℕ) → IsShelf s → (n ≡ s.current.number) ⊎ (1 ≤ pins_of s n) → is_member nat_eq (live_of s) n ≡ true
live_member s n is live =
    elim (cases_eq s.current.number n) [
      | inl same ↦ rw (test_true n s.current.number (sym same)) refl
      | inr other ↦
          rw (test_false n s.current.number (λ e. other (sym e)))
          (elim live [
            | inl same ↦ absurd (other (sym same))
            | inr some ↦ pinned_member n s.older (rw (test_false s.current.number n other) at some)
          ])
    ]

member_live : {T : Type 0} (s : Shelf T) (n : ℕ) → IsShelf s → is_member nat_eq (live_of s) n ≡ true → (n ≡ s.current.number) ⊎ (1 ≤ pins_of s n)
member_live s n is has =
    elim (cases_eq s.current.number n) [
      | inl same ↦ inl (sym same)
      | inr other ↦
          inr (rw (test_false s.current.number n other) (member_pinned n 0 s.current.number s.older is.older (rw (test_false n s.current.number (λ e. other (sym e))) at has)))
    ]

pub as_many : {T : Type 0} (s : Shelf T) (numbers : List ℕ) → IsShelf s → AreLive s numbers → length numbers ≡ length s.older + 1
as_many {T} s numbers is live =
    let decides = is_member-Decides {eq = nat_eq} Decides-eqb numbers in
    let same : (q : ℕ) → is_member nat_eq numbers q ≡ is_member nat_eq (live_of s) q = λ q.
    same_tests (is_member nat_eq numbers q) (is_member nat_eq (live_of s) q)
    (λ has. live_member s q is ((live.each q).0 ((decides q).0 has)))
    (λ has. (decides q).1 ((live.each q).1 (member_live s q is has))) in
    let long : length (numbers_of s.older) ≡ length s.older = length-map s.older (λ (g : Generation T). g.number) in
    length-from_same_keys {eq = nat_eq} nat_eq_equiv numbers (live_of s) (IsDistinct-from_AllPairs {eq = nat_eq} Decides-eqb numbers live.differ) (live_differ s is) same
    ∙ omega (arith, long)

pub full_by_numbers : (T : Type 0) → FullByNumbers T
full_by_numbers T s numbers is live =
    let many = as_many s numbers is live in (
      (λ (full : IsFull s). elim full as (λ _. (length numbers ≡ live_most) ⊎ (s.current.number ≡ 2 ^ 64 - 1)) [ inl few ↦ inl (omega (arith, few, many)) | inr last ↦ inr last ]),
      (λ (full : (length numbers ≡ live_most) ⊎ (s.current.number ≡ 2 ^ 64 - 1)). elim full as (λ _. IsFull s) [ inl few ↦ inl (omega (arith, few, many)) | inr last ↦ inr last ]),
    )
