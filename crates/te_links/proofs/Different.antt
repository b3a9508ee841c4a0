-- Keys that differ, and lists with few different ones.
use Rattle.std.proofs.Common.{◌≡◌, ◌≢◌, ◌⊎◌, inl, inr, ℕ, zero, suc, ◌+◌, ◌<◌, ◌≤◌, Bool, true, false, List, [], length, take, get_or, nat_eq, Some, refl, sym, ◌∙◌, ap, subst, arith}
use Rattle.std.specs.Prelude.{All, AllPairs, Contains, slice_get}
use Rattle.std.specs.Bool.{Decides}
use Rattle.std.specs.Set.{is_member}
use Rattle.std.proofs.lemmas.Bool.{cases_lt}
use Rattle.std.proofs.lemmas.Cmp.{nat_eq_equiv}
use Rattle.std.proofs.lemmas.List.{get_or-take, get_or_default, length-take-le, take_all}
use Rattle.std.proofs.lemmas.List.Elements.{All-contains, All-weaker}
use Rattle.std.proofs.lemmas.Map.Made.{IsDistinct-from_AllPairs, is_member-Decides, length-le_from_is_member}
use Rattle.std.proofs.lemmas.Option.{slice_get-get_or, slice_get_cases, get_or_from_slice_get, slice_get_within}
use Rattle.dom_base.specs.AddrOrder.{rank}
use Rattle.dom_base.proofs.Ranks.{Decides-rank}
use Rattle.dom_base.specs.declared.addr.Addr.{Addr}
use Rattle.te_links.specs.Rows.{FewDifferent}

abbrev same : Addr → Addr → Bool
same a b = nat_eq (rank a) (rank b)

-- an address stands in a list or does not
pub stands : (list : List Addr) (a : Addr) → Contains list a ⊎ ¬ Contains list a
stands list a =
    let d : Decides (is_member same list a) (Contains list a) = is_member-Decides {eq = same} Decides-rank list a in
    let go : (b : Bool) → is_member same list a ≡ b → Contains list a ⊎ ¬ Contains list a =
    λ b. elim b as (λ t. is_member same list a ≡ t → Contains list a ⊎ ¬ Contains list a) [
      | true ↦ λ is. inl (d.0 is)
      | false ↦ λ is. inr (λ has. let t = d.1 has in cc)
    ] in
    go (is_member same list a) refl

pub stands_after_all : (list : List Addr) (a : Addr) → ¬ (¬ Contains list a) → Contains list a
stands_after_all list a not_not = elim (stands list a) [ inl has ↦ has | inr lacks ↦ absurd (not_not lacks) ]

-- where no key stands before its own place the keys differ
pub pairs_differ : {X : Type 0} (keys : List X) → ((k : ℕ) (x : X) → slice_get keys k ≡ Some x → ¬ Contains (take k keys) x) → AllPairs (λ a b. a ≢ b) keys
pairs_differ {X} keys new i j d before below is =
    let x : X = get_or keys j d in
    new j x (slice_get-get_or keys j d below)
    (i, omega (arith, length-take-le j keys (omega arith)), get_or-take j keys i x before ∙ get_or_default keys i x d (omega arith) ∙ is)

-- addresses that rise differ
pub risen_differ : (addrs : List Addr) → AllPairs (λ a b. rank a < rank b) addrs → AllPairs (λ a b. a ≢ b) addrs
risen_differ addrs up i j d before below is = let less = up i j d before below in let same = ap rank is in omega (arith, less, same)

-- where keys differ, none stands before its own place
pub new_of_different : {X : Type 0} (keys : List X) → AllPairs (λ a b. a ≢ b) keys → (k : ℕ) (x : X) → slice_get keys k ≡ Some x → ¬ Contains (take k keys) x
new_of_different keys differ k x at_k has =
    let below = slice_get_within keys k x at_k in
    let before : has.0 < k = omega (arith, has.1, length-take-le k keys (omega arith)) in
    differ has.0 k x before below (sym (get_or-take k keys has.0 x before) ∙ has.2 ∙ sym (get_or_from_slice_get keys k x x at_k))

-- a list whose addresses all stand in a short one has few different ones
pub few_covered : (most : ℕ) (list cover : List Addr) → All (Contains cover) list → length cover ≤ most → FewDifferent most list
few_covered most list cover covered short some differ within =
    let inside : (q : Addr) → is_member same some q ≡ true → is_member same cover q ≡ true =
    λ q is. (is_member-Decides {eq = same} Decides-rank cover q).1
    (All-contains (Contains cover) list q covered (All-contains (Contains list) some q within ((is_member-Decides {eq = same} Decides-rank some q).0 is))) in
    let bound : length some ≤ length cover =
    length-le_from_is_member {eq = same} (record { refl = λ a. nat_eq_equiv.refl (rank a); symm = λ a b. nat_eq_equiv.symm (rank a) (rank b); congr = λ a b c. nat_eq_equiv.congr (rank a) (rank b) (rank c) })
    some cover (IsDistinct-from_AllPairs {eq = same} Decides-rank some differ) inside in
    omega arith

-- fewer addresses have few different ones too
pub few_fewer : (most : ℕ) (xs ys : List Addr) → All (Contains ys) xs → FewDifferent most ys → FewDifferent most xs
few_fewer most xs ys within few some differ in_xs = few some differ (All-weaker (Contains xs) (Contains ys) (λ a has. All-contains (Contains ys) xs a within has) some in_xs)

pub few_stable : (most : ℕ) (xs : List Addr) → ¬ (¬ FewDifferent most xs) → FewDifferent most xs
few_stable most xs not_not some differ within =
    elim (cases_lt most (length some)) [
      | inl lt ↦ absurd (not_not (λ few. omega (arith, few some differ within)))
      | inr ge ↦ ge
    ]

-- a longer front holds a shorter one
pub front_within : {X : Type 0} (xs : List X) (m n : ℕ) → m ≤ n → n ≤ length xs → All (Contains (take n xs)) (take m xs)
front_within {X} xs m n le inside k d below =
    let long : length (take m xs) ≡ m = length-take-le m xs (omega arith) in
    let longer : length (take n xs) ≡ n = length-take-le n xs inside in
    let x : X = get_or (take m xs) k d in (
      k,
      omega arith,
      get_or-take n xs k x (omega arith) ∙ get_or_default xs k x d (omega arith) ∙ sym (get_or-take m xs k d (omega arith)),
    )

pub front_few : (most : ℕ) (xs : List Addr) (m n : ℕ) → m ≤ n → n ≤ length xs → FewDifferent most (take n xs) → FewDifferent most (take m xs)
front_few most xs m n le inside few = few_fewer most (take m xs) (take n xs) (front_within xs m n le inside) few

-- what holds of each longer front holds of all
pub of_each_front : {X : Type 0} (P : List X → Type 0) (xs : List X) → P [] → ((i : ℕ) (x : X) → slice_get xs i ≡ Some x → P (take (i + 1) xs)) → (n : ℕ) → n ≤ length xs → P (take n xs)
of_each_front P xs none each zero inside = none
of_each_front P xs none each (suc n) inside =
    elim (slice_get_cases xs n).1 [
      | inl has ↦ let one_more : n + 1 ≡ suc n = omega arith in subst (λ m. P (take m xs)) one_more (each n has.0 has.2)
      | inr past ↦ absurd (omega (arith, past.0))
    ]

pub of_all : {X : Type 0} (P : List X → Type 0) (xs : List X) → P [] → ((i : ℕ) (x : X) → slice_get xs i ≡ Some x → P (take (i + 1) xs)) → P xs
of_all P xs none each = subst P (take_all (length xs) xs (omega arith)) (of_each_front P xs none each (length xs) (omega arith))
