-- Exits that were sorted and stand once each.
use Rattle.std.proofs.Common.{◌≡◌, ℕ, zero, suc, ◌<◌, Bool, true, false, cond, Less, Equal, Greater, List, [], ◌∷◌, length, map, nat_eq, nat_lt, sym, refl, subst, arith}
use Rattle.std.specs.Prelude.{All, Contains, IsPermutation, slice_index_or}
use Rattle.std.specs.List.{dedup, AllByRecursion}
use Rattle.std.specs.List.Sorted.{IsSorted, IsStrictlySortedBy}
use Rattle.std.specs.Ordering.{nat_cmp, on, is_eq}
use Rattle.std.proofs.lemmas.Bool.{ltb-true, ne_eqb}
use Rattle.std.proofs.lemmas.Cmp.{nat_cmp_total, on_total, nat_eq_equiv, ranked}
use Rattle.std.proofs.lemmas.List.{get_or-map, length-map}
use Rattle.std.proofs.lemmas.List.Kept.{IsStrictlySortedBy-dedup, Contains-dedup}
use Rattle.std.proofs.lemmas.List.Sorted.{Contains-permutation}
use Rattle.dom_base.specs.AddrOrder.{rank}
use Rattle.dom_base.proofs.Ranks.{Decides-rank}
use Rattle.dom_base.specs.declared.addr.Addr.{Addr}
use Rattle.dom_base.specs.declared.query.Seed.{Seed}
use Rattle.path_search.specs.Short.{DoRise}

abbrev pub same_addrs : Addr → Addr → Bool
same_addrs a b = nat_eq (rank a) (rank b)

-- equal numbers are those that the order does not tell apart
ties : (m n : ℕ) → nat_eq m n ≡ is_eq (nat_cmp m n)
ties m n = go (nat_lt m n) refl
  where
    one : (c : Bool) → c ≡ is_eq (cond c Equal Greater)
    one true = refl
    one false = refl

    go : (b : Bool) → nat_lt m n ≡ b → nat_eq m n ≡ is_eq (cond b Less (cond (nat_eq m n) Equal Greater))
    go true is = ne_eqb m n (λ same. omega (arith, same, ltb-true m n is))
    go false is = one (nat_eq m n)

less_rank : (m n : ℕ) → nat_cmp m n ≡ Less → m < n
less_rank m n is = ranked m n Less (sym is)

-- what strictly rises rises
pub strict_rises : (xs : List Addr) → IsStrictlySortedBy (on rank nat_cmp) xs → DoRise xs
unfolding IsStrictlySortedBy
strict_rises [] up i j d lt below = absurd (omega (arith, below))
strict_rises (x ∷ xs) up zero zero d lt below = absurd (omega (arith, lt))
strict_rises (x ∷ xs) up zero (suc j) d lt below = first xs up.0 j d (omega (arith, below))
  where
    first : (ys : List Addr) → AllByRecursion (λ y. on rank nat_cmp x y ≡ Less) ys → (k : ℕ) (e : Addr) → k < length ys → rank x < rank (slice_index_or ys k e)
    first [] all k e inside = absurd (omega (arith, inside))
    first (y ∷ ys) all zero e inside = less_rank (rank x) (rank y) all.0
    first (y ∷ ys) all (suc k) e inside = first ys all.1 k e (omega (arith, inside))
strict_rises (x ∷ xs) up (suc i) zero d lt below = absurd (omega (arith, lt))
strict_rises (x ∷ xs) up (suc i) (suc j) d lt below = strict_rises xs up.1 i j d (omega (arith, lt)) (omega (arith, below))

pub rises_after : (xs : List Addr) → IsSorted (on rank nat_cmp) xs → DoRise (dedup same_addrs xs)
rises_after xs sorted = strict_rises (dedup same_addrs xs) (IsStrictlySortedBy-dedup (on_total rank nat_cmp_total) (λ x y. ties (rank x) (rank y)) xs sorted)

-- each exit is still there
pub exits_kept : (seeds : List Seed) (all sorted : List Addr) → all ≡ map (λ (s : Seed). s.exit) seeds → IsPermutation all sorted →
    All (λ (s : Seed). Contains (dedup same_addrs sorted) s.exit) seeds
exits_kept seeds all sorted is moved i d below =
    let s : Seed = slice_index_or seeds i d in
    let here : Contains (map (λ (t : Seed). t.exit) seeds) s.exit =
    (i, omega (arith, below, length-map seeds (λ (t : Seed). t.exit)), get_or-map (λ (t : Seed). t.exit) seeds i d s.exit below) in
    let there : Contains sorted s.exit = Contains-permutation all sorted s.exit moved (subst (λ (xs : List Addr). Contains xs s.exit) (sym is) here) in
    Contains-dedup {E = same_addrs}
    (record { refl = λ a. nat_eq_equiv.refl (rank a); symm = λ a b. nat_eq_equiv.symm (rank a) (rank b); congr = λ a b c. nat_eq_equiv.congr (rank a) (rank b) (rank c) })
    (λ x y e. (Decides-rank x y).0 e) sorted s.exit there
