-- Counts of keys, and addresses that differ, as more come.
use Rattle.std.proofs.Common.{◌≡◌, ◌≢◌, inl, inr, ℕ, ◌+◌, ◌<◌, ◌≤◌, Bool, true, false, cond, List, [], ◌∷◌, ◌++◌, length, take, get_or, Option, Some, refl, sym, ◌∙◌, ap, subst, arith}
use Rattle.std.specs.Prelude.{All, AllPairs, Contains, count_by, unwrap_or}
use Rattle.std.specs.Bool.{Decides}
use Rattle.std.specs.BTreeMap.{BTreeMap, is_at, get, IsEmpty}
use Rattle.std.specs.declared.cmp.Ordering.{Ordering}
use Rattle.std.specs.Map.{lookup}
use Rattle.std.proofs.lemmas.List.{get_or_append_left, get_or_at, length_push, take-append-le, take_at, take_all, take_more}
use Rattle.std.proofs.lemmas.List.Elements.{All-nil, All-push, All-weaker, Contains-append_left, Contains-push, Contains-get_or}
use Rattle.std.proofs.lemmas.List.Quantifiers.{all_pairs_push}
use Rattle.std.proofs.lemmas.List.Sums.{sum_by_push}
use Rattle.std.proofs.lemmas.Option.{slice_get_within}
use Rattle.dom_base.specs.declared.addr.Addr.{Addr}
use Rattle.te_links.specs.Survey.{CountsBefore, IsFewUpTo}
use Rattle.te_links.proofs.Different.{few_covered}
use Rattle.te_links.proofs.Ends.{at_pushed}

pub counts_none : {K : Type 0} (cmp : K → K → Ordering) → CountsBefore cmp [] []
counts_none cmp = record { each = refl; at_key = λ k x at. absurd (omega (arith, slice_get_within [] k x at)) }

pub seen_none : {K : Type 0} (cmp : K → K → Ordering) (m : BTreeMap K ℕ) → IsEmpty m → (q : K) → unwrap_or (get cmp m q) 0 ≡ 0
seen_none cmp m empty q = ap (λ es. unwrap_or (lookup (is_at (cmp q)) es) 0) empty

pub counts_more : {K : Type 0} (cmp : K → K → Ordering) (keys : List K) (counts : List ℕ) (x : K) (n : ℕ) → CountsBefore cmp keys counts → n ≡ count_by (is_at (cmp x)) keys →
    CountsBefore cmp (keys ++ x ∷ []) (counts ++ n ∷ [])
counts_more cmp keys counts x n old is = record {
  each = length_push counts n ∙ ap (λ k. k + 1) old.each ∙ sym (length_push keys x);
  at_key = λ k y at.
      elim (at_pushed keys x y k at) [
        | inl before ↦
            let inside = slice_get_within keys k y before in
            get_or_append_left counts (n ∷ []) 0 k (omega (arith, inside, old.each)) ∙ old.at_key k y before
            ∙ ap (count_by (is_at (cmp y))) (sym (take-append-le k keys (x ∷ []) (omega (arith, inside))))
        | inr last ↦
            get_or_at counts n [] 0 k (old.each ∙ sym last.0) ∙ is
            ∙ ap (λ z. count_by (is_at (cmp z)) keys) (sym last.1)
            ∙ ap (count_by (is_at (cmp y))) (sym (take_at keys (x ∷ []) k (sym last.0)))
      ];
}

pub seen_more : {K : Type 0} (cmp : K → K → Ordering) → ((a b : K) → Decides (is_at (cmp a) b) (a ≡ b)) → (keys : List K) (m n : BTreeMap K ℕ) (x : K) (v : ℕ) →
    v ≡ unwrap_or (get cmp m x) 0 → ((q : K) → get cmp n q ≡ cond (is_at (cmp x) q) (Some (v + 1)) (get cmp m q)) →
    ((q : K) → unwrap_or (get cmp m q) 0 ≡ count_by (is_at (cmp q)) keys) → (q : K) → unwrap_or (get cmp n q) 0 ≡ count_by (is_at (cmp q)) (keys ++ x ∷ [])
seen_more cmp same keys m n x v is new seen q =
    let more = sum_by_push (λ y. let k : ℕ = cond (is_at (cmp q) y) 1 0 in k) keys x in
    let go : (b : Bool) → is_at (cmp x) q ≡ b → unwrap_or (cond b (Some (v + 1)) (get cmp m q)) 0 ≡ count_by (is_at (cmp q)) (keys ++ x ∷ []) =
    λ b. elim b as (λ t. is_at (cmp x) q ≡ t → unwrap_or (cond t (Some (v + 1)) (get cmp m q)) 0 ≡ count_by (is_at (cmp q)) (keys ++ x ∷ [])) [
      | true ↦ λ yes_it_is.
          let one : x ≡ q = (same x q).0 yes_it_is in
          let back : is_at (cmp q) x ≡ true = (same q x).1 (sym one) in
          let here : v ≡ count_by (is_at (cmp q)) keys = is ∙ ap (λ z. unwrap_or (get cmp m z) 0) one ∙ seen q in
          let adds : ◌≡◌ {A = ℕ} (cond (is_at (cmp q) x) 1 0) 1 = ap (λ (t : Bool). let k : ℕ = cond t 1 0 in k) back in
          omega (arith, more, here, adds)
      | false ↦ λ it_is_not.
          let apart : (b2 : Bool) → is_at (cmp q) x ≡ b2 → ◌≡◌ {A = ℕ} (cond b2 1 0) 0 =
          λ b2. elim b2 as (λ t. is_at (cmp q) x ≡ t → ◌≡◌ {A = ℕ} (cond t 1 0) 0) [
            | true ↦ λ back. absurd (let one : x ≡ q = sym ((same q x).0 back) in let t = (same x q).1 one in let both : true ≡ false = sym t ∙ it_is_not in cc)
            | false ↦ λ back. refl
          ] in
          let adds : ◌≡◌ {A = ℕ} (cond (is_at (cmp q) x) 1 0) 0 = apart (is_at (cmp q) x) refl in
          omega (arith, more, seen q, adds)
    ] in
    ap (λ (o : Option ℕ). unwrap_or o 0) (new q) ∙ go (is_at (cmp x) q) refl

-- addresses that differ and cover a list, as the list grows
pub record Covers (addrs different : List Addr) (most : ℕ) : Type 0 where
  pub differ : AllPairs (λ a b. a ≢ b) different
  pub within : All (Contains addrs) different
  pub covers : All (Contains different) addrs
  pub few : length different ≤ most

pub covers_none : (most : ℕ) → Covers [] [] most
covers_none most = record {
  differ = λ i j d before below. absurd (omega arith);
  within = All-nil (Contains []);
  covers = All-nil (Contains []);
  few = omega arith;
}

wider : (addrs different : List Addr) (a : Addr) → All (Contains addrs) different → All (Contains (addrs ++ a ∷ [])) different
wider addrs different a within = All-weaker (Contains addrs) (Contains (addrs ++ a ∷ [])) (λ b has. Contains-append_left addrs (a ∷ []) b has) different within

pub covers_kept : (addrs different : List Addr) (a : Addr) (most : ℕ) → Contains different a → Covers addrs different most → Covers (addrs ++ a ∷ []) different most
covers_kept addrs different a most has old = record {
  differ = old.differ;
  within = wider addrs different a old.within;
  covers = All-push (Contains different) addrs a old.covers has;
  few = old.few;
}

pushed_differ : (addrs different : List Addr) (a : Addr) → ¬ Contains different a → AllPairs (λ b c. b ≢ c) different → AllPairs (λ b c. b ≢ c) (different ++ a ∷ [])
pushed_differ addrs different a lacks differ =
    all_pairs_push (λ b c. b ≢ c) different a differ (λ k d below is. lacks (subst (Contains different) is (Contains-get_or different k d below)))

pub covers_more : (addrs different : List Addr) (a : Addr) (most : ℕ) → ¬ Contains different a → length different < most → Covers addrs different most → Covers (addrs ++ a ∷ []) (different ++ a ∷ []) most
covers_more addrs different a most lacks room old = record {
  differ = pushed_differ addrs different a lacks old.differ;
  within = All-push (Contains (addrs ++ a ∷ [])) different a (wider addrs different a old.within) (Contains-push addrs a);
  covers = All-push (Contains (different ++ a ∷ [])) addrs a
      (All-weaker (Contains different) (Contains (different ++ a ∷ [])) (λ b has. Contains-append_left different (a ∷ []) b has) addrs old.covers) (Contains-push different a);
  few = omega (arith, room, length_push different a);
}

pub full : (addrs : List Addr) (i : ℕ) (different : List Addr) (a : Addr) (most : ℕ) → i < length addrs → a ≡ get_or addrs i a → ¬ Contains different a → most ≤ length different →
    Covers (take i addrs) different most → IsFewUpTo most addrs i
full addrs i different a most inside is lacks no_room old = record {
  within = omega arith;
  few = few_covered most (take i addrs) different old.covers old.few;
  ends = λ _ few.
      let more : take (i + 1) addrs ≡ take i addrs ++ a ∷ [] = take_more addrs i a inside ∙ ap (λ b. take i addrs ++ b ∷ []) (sym is) in
      let bound = few (different ++ a ∷ []) (pushed_differ (take i addrs) different a lacks old.differ)
      (rw more (All-push (Contains (take i addrs ++ a ∷ [])) different a (wider (take i addrs) different a old.within) (Contains-push (take i addrs) a))) in
      omega (arith, bound, no_room, length_push different a);
}

pub whole : (addrs : List Addr) (different : List Addr) (most : ℕ) → Covers addrs different most → IsFewUpTo most addrs (length addrs)
whole addrs different most old = record {
  within = omega arith;
  few = few_covered most (take (length addrs) addrs) different (subst (All (Contains different)) (sym (take_all (length addrs) addrs (omega arith))) old.covers) old.few;
  ends = λ less. absurd (omega arith);
}
