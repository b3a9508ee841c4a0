-- What counts of keys tell of repeats.
use Rattle.std.proofs.Common.{◌≡◌, ◌≢◌, ℕ, ◌+◌, ◌<◌, ◌≤◌, ◌==◌, Bool, true, false, cond, List, [], ◌∷◌, ◌++◌, length, map, take, replicate, get_or, nat_eq, Some, refl, sym, ◌∙◌, ap, subst, arith}
use Rattle.std.specs.Prelude.{AllPairs, Contains, count_by, slice_get, slice_index_or}
use Rattle.std.specs.Bool.{Decides}
use Rattle.std.specs.BTreeMap.{is_at}
use Rattle.std.specs.List.Sorted.{IsNonDecreasingBy}
use Rattle.std.specs.declared.cmp.Ordering.{Ordering}
use Rattle.std.proofs.lemmas.Bool.Decides.{Decides-eqb}
use Rattle.std.proofs.lemmas.List.{map-append, take-map, length-replicate, get_or-replicate}
use Rattle.std.proofs.lemmas.List.Elements.{Contains-append_right}
use Rattle.std.proofs.lemmas.List.Sums.{sum_by-cons, get_or-le-sum_by}
use Rattle.std.proofs.lemmas.Option.{slice_get_within}
use Rattle.dom_base.specs.declared.addr.Addr.{Addr}
use Rattle.dom_base.specs.declared.names.As.{As}
use Rattle.dom_base.specs.declared.link.Link.{Link}
use Rattle.te_links.specs.declared.rows.OutLink.{OutLink}
use Rattle.te_links.specs.declared.rows.Entry.{Entry}
use Rattle.te_links.specs.Rows.{Rows, all_links}
use Rattle.te_links.specs.Survey.{CountsBefore, TellsRepeats}
use Rattle.te_links.proofs.Different.{new_of_different}
use Rattle.te_links.proofs.Sound.{to_map}

some_counted : {K : Type 0} (p : K → Bool) (xs : List K) → 0 < count_by p xs → (y : K) × Contains xs y × (p y ≡ true)
some_counted p [] some = absurd (omega (arith, some))
some_counted {K} p (x ∷ xs) some =
    let head = sum_by-cons (λ y. let n : ℕ = cond (p y) 1 0 in n) x xs in
    let go : (b : Bool) → p x ≡ b → (y : K) × Contains (x ∷ xs) y × (p y ≡ true) =
    λ b. elim b as (λ t. p x ≡ t → (y : K) × Contains (x ∷ xs) y × (p y ≡ true)) [
      | true ↦ λ is. (x, (0, omega arith, refl), is)
      | false ↦ λ is.
          let none : ◌≡◌ {A = ℕ} (cond (p x) 1 0) 0 = ap (λ (t : Bool). let n : ℕ = cond t 1 0 in n) is in
          let rest = some_counted p xs (omega (arith, some, head, none)) in
          (rest.0, Contains-append_right (x ∷ []) xs rest.0 rest.1, rest.2)
    ] in
    go (p x) refl

-- where all differ, none is repeated
pub none_repeat : {K : Type 0} (keys : List K) (counts : List ℕ) → counts ≡ replicate (length keys) 0 → AllPairs (λ a b. a ≢ b) keys → TellsRepeats keys counts
none_repeat keys counts zeros differ = record {
  each = ap length zeros ∙ length-replicate (length keys) 0;
  repeats = λ k x at some.
      let none : slice_index_or counts k 0 ≡ 0 = ap (λ (ns : List ℕ). get_or ns k 0) zeros ∙ get_or-replicate (length keys) k 0 0 (slice_get_within keys k x at) in
      absurd (omega (arith, some, none));
  differs = λ k x at _. new_of_different keys differ k x at;
}

pub tells : {K : Type 0} (cmp : K → K → Ordering) (keys : List K) (counts : List ℕ) → CountsBefore cmp keys counts → ((a b : K) → Decides (is_at (cmp a) b) (a ≡ b)) → TellsRepeats keys counts
tells cmp keys counts count same = record {
  each = count.each;
  repeats = λ k x at some.
      let has = some_counted (is_at (cmp x)) (take k keys) (subst (λ n. 0 < n) (count.at_key k x at) some) in
      subst (Contains (take k keys)) (sym ((same x has.0).0 has.2)) has.1;
  differs = λ k x at none has.
      let here : get_or (take k keys) has.0 x ≡ x = has.2 in
      let passes : is_at (cmp x) (get_or (take k keys) has.0 x) ≡ true = (same x (get_or (take k keys) has.0 x)).1 (sym here) in
      let one : ◌≡◌ {A = ℕ} (cond (is_at (cmp x) (get_or (take k keys) has.0 x)) 1 0) 1 = ap (λ (t : Bool). let n : ℕ = cond t 1 0 in n) passes in
      let bound = get_or-le-sum_by (λ y. let n : ℕ = cond (is_at (cmp x) y) 1 0 in n) (take k keys) has.0 x has.1 in
      omega (arith, bound, one, none, count.at_key k x at);
}

decide_alike : {P Q : Type 0} (a b : Bool) → Decides a P → Decides b Q → (P → Q) → (Q → P) → a ≡ b
decide_alike true true p q to from = refl
decide_alike false false p q to from = refl
decide_alike true false p q to from = sym (q.1 (to (p.0 refl)))
decide_alike false true p q to from = p.1 (from (q.0 refl))

pub domain_counts : (cmp : As → As → Ordering) → ((a b : As) → Decides (is_at (cmp a) b) (a ≡ b)) → (a : As) (xs : List Entry) →
    count_by (is_at (cmp a)) (map (λ e. e.from_as) xs) ≡ count_by (λ f. f.from_as.0 == a.0) xs
domain_counts cmp same a [] = refl
domain_counts cmp same a (e ∷ xs) =
    let alike : is_at (cmp a) e.from_as ≡ nat_eq e.from_as.0 a.0 =
    decide_alike (is_at (cmp a) e.from_as) (nat_eq e.from_as.0 a.0) (same a e.from_as) (Decides-eqb e.from_as.0 a.0)
    (λ is. sym (ap (λ (b : As). b.0) is)) (λ is. ap (λ n. let b : As = record { 0 = n } in b) (sym is)) in
    sum_by-cons (λ b. let n : ℕ = cond (is_at (cmp a) b) 1 0 in n) e.from_as (map (λ f. f.from_as) xs)
    ∙ ap (λ (t : Bool). let n : ℕ = cond t 1 0 in n + count_by (is_at (cmp a)) (map (λ f. f.from_as) xs)) alike
    ∙ ap (λ m. let n : ℕ = cond (nat_eq e.from_as.0 a.0) 1 0 in n + m) (domain_counts cmp same a xs)
    ∙ sym (sum_by-cons (λ f. let n : ℕ = cond (f.from_as.0 == a.0) 1 0 in n) e xs)

pub domains_told : (cmp : As → As → Ordering) (entries : List Entry) (counts : List ℕ) → CountsBefore cmp (map (λ e. e.from_as) entries) counts → ((a b : As) → Decides (is_at (cmp a) b) (a ≡ b)) →
    (k : ℕ) (e : Entry) → slice_get entries k ≡ Some e → slice_index_or counts k 0 ≡ count_by (λ f. f.from_as.0 == e.from_as.0) (take k entries)
domains_told cmp entries counts count same k e at =
    count.at_key k e.from_as (to_map (λ (f : Entry). f.from_as) entries k e at)
    ∙ ap (count_by (is_at (cmp e.from_as))) (take-map (λ (f : Entry). f.from_as) k entries)
    ∙ domain_counts cmp same e.from_as (take k entries)

pub keys_of_outs : (key : Link → Addr) (outs : List OutLink) → map key (map (λ o. o.link) outs) ≡ map (λ o. key o.link) outs
keys_of_outs key [] = refl
keys_of_outs key (o ∷ outs) = ap (λ l. key o.link ∷ l) (keys_of_outs key outs)

pub keys_of_all : (g : Rows) (key : Link → Addr) → map key (all_links g) ≡ map key g.links ++ map (λ o. key o.link) g.outs
keys_of_all g key = map-append key g.links (map (λ o. o.link) g.outs) ∙ ap (λ l. map key g.links ++ l) (keys_of_outs key g.outs)

pub in_order : {X : Type 0} (number : X → ℕ) (xs : List X) → IsNonDecreasingBy number xs → AllPairs (λ a b. number a ≤ number b) xs
in_order number xs up i j d before below = up i j d (omega arith) below
