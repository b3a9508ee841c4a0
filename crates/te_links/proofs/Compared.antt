-- What comparisons of addresses, and of entries, tell.
use Rattle.std.proofs.Common.{◌≡◌, inl, inr, ℕ, ◌<◌, ◌≤◌, true, false, List, nat_eq, refl, sym, arith}
use Rattle.std.specs.Bool.{Decides}
use Rattle.std.specs.BTreeMap.{is_at}
use Rattle.std.specs.Cmp.{both_tied}
use Rattle.std.specs.List.Sorted.{IsNonDecreasingBy, IsSortedByKey}
use Rattle.std.specs.Ordering.{is_lt, is_ge, is_eq, on, ordering_then, nat_cmp}
use Rattle.std.specs.Fn.{Called, ComputesKey}
use Rattle.std.proofs.lemmas.Bool.{lt-ltb, le-ltb, cases_lt}
use Rattle.std.proofs.lemmas.Bool.Decides.{Decides-at, eqb_tells}
use Rattle.std.proofs.lemmas.Fn.{always_returns_same}
use Rattle.std.proofs.lemmas.List.Sorted.{IsNonDecreasingBy-from_sort}
use denote.Ref.{Bor}
use denote.Param.Members.{Mut}
use Rattle.dom_base.specs.AddrOrder.{rank}
use Rattle.dom_base.specs.declared.addr.Addr.{Addr}
use Rattle.te_links.specs.declared.rows.Entry.{Entry}
use Rattle.dom_base.proofs.Ranks.{Decides-rank}
use Rattle.te_links.proofs.Moved.{entry_eq, same_entry}

pub below_told : (m n : ℕ) → is_lt (nat_cmp m n) ≡ true → m < n
below_told m n is =
    elim (cases_lt m n) [
      | inl lt ↦ lt
      | inr ge ↦ elim (eqb_tells m n) [
        | inl t ↦ absurd (let h : false ≡ true = rw (le-ltb m n ge, t.0) at is in cc)
        | inr f ↦ absurd (let h : false ≡ true = rw (le-ltb m n ge, f.0) at is in cc)
      ]
    ]

pub not_below_told : (m n : ℕ) → is_lt (nat_cmp m n) ≡ false → n ≤ m
not_below_told m n is =
    elim (cases_lt m n) [
      | inl lt ↦ absurd (let h : true ≡ false = rw (lt-ltb m n lt) at is in cc)
      | inr ge ↦ ge
    ]

-- what it tells that an address is not before another
pub reached_told : (m n : ℕ) → is_ge (nat_cmp m n) ≡ true → n ≤ m
reached_told m n is =
    elim (cases_lt m n) [
      | inl lt ↦ absurd (let h : false ≡ true = rw (lt-ltb m n lt) at is in cc)
      | inr ge ↦ ge
    ]

pub not_reached_told : (m n : ℕ) → is_ge (nat_cmp m n) ≡ false → m < n
not_reached_told m n is =
    elim (cases_lt m n) [
      | inl lt ↦ lt
      | inr ge ↦ elim (eqb_tells m n) [
        | inl t ↦ absurd (let h : true ≡ false = rw (le-ltb m n ge, t.0) at is in cc)
        | inr f ↦ absurd (let h : true ≡ false = rw (le-ltb m n ge, f.0) at is in cc)
      ]
    ]

tied_told : (m n : ℕ) → nat_eq m n ≡ is_eq (nat_cmp m n)
tied_told m n =
    elim (cases_lt m n) [
      | inl lt ↦ elim (eqb_tells m n) [
        | inl t ↦ absurd (omega (arith, lt, t.1))
        | inr f ↦ rw (lt-ltb m n lt, f.0) refl
      ]
      | inr ge ↦ elim (eqb_tells m n) [ inl t ↦ rw (le-ltb m n ge, t.0) refl | inr f ↦ rw (le-ltb m n ge, f.0) refl ]
    ]

-- equal in the order is equal
pub addr_told : (a b : Addr) → Decides (is_at (on rank nat_cmp a) b) (a ≡ b)
addr_told a b = Decides-at (is_eq (nat_cmp (rank a) (rank b))) (nat_eq (rank a) (rank b)) (sym (tied_told (rank a) (rank b))) (Decides-rank a b)

pub entry_told : (a b : Entry) → Decides (is_eq (ordering_then (nat_cmp a.from_as.0 b.from_as.0) (nat_cmp (rank a.node) (rank b.node)))) (a ≡ b)
entry_told a b =
    let domains = nat_cmp a.from_as.0 b.from_as.0 in
    let nodes = nat_cmp (rank a.node) (rank b.node) in
    Decides-at (is_eq (ordering_then domains nodes)) (entry_eq a b)
    (sym (both_tied (nat_eq a.from_as.0 b.from_as.0) (nat_eq (rank a.node) (rank b.node)) domains nodes (tied_told a.from_as.0 b.from_as.0) (tied_told (rank a.node) (rank b.node))))
    (same_entry a b)

-- what a sort by addresses says, where each call gives the address of the row
pub rising_from_sort : {X : Type 0} (key : X → Addr) {F : Type 0} {g : Mut F (Bor X × Unit {0}) Addr} {f : F} (xs : List X)
    → ((k : X → Addr) → ComputesKey g k f → IsSortedByKey k (on rank nat_cmp) xs)
    → ((a : Bor X × Unit {0}) (r : Addr) (f' : F) → Called g f a r f' → (r ≡ key a.0.now) × (f' ≡ f)) → IsNonDecreasingBy (λ x. rank (key x)) xs
rising_from_sort key {g = g} {f = f} xs sorted gives =
    IsNonDecreasingBy-from_sort (λ x. rank (key x)) xs (sorted key (always_returns_same g (λ a r. r ≡ key a.0.now) f gives))
