-- The domains of elements rise: each stands once, and is found among the settings.
use Rattle.std.proofs.Common.{◌≡◌, ◌<◌, ◌≤◌, ℕ, suc, Bool, true, false, cond, nat_lt, is_some, Some, None, List, [], ◌∷◌, length, map, All, AllPairs, arith, refl, sym, ◌∙◌, ap, subst, inl, inr}
use Rattle.std.proofs.lemmas.Bool.{cases_lt, lt-ltb, le-ltb, eqb-true, eqb-false, ne_eqb}
use Rattle.std.proofs.lemmas.List.Elements.{All-nil, All-cons}
use Rattle.std.proofs.lemmas.List.Kept.{AllPairs-cons}
use Rattle.pce_common.specs.plant_model.Types.{As, NetworkParts, ElementRow}
use Rattle.plant_text.specs.Names.{same_as, insert_as}
use Rattle.plant_text.specs.Settings.{children_of, elements_of, is_element, row_of}
use Rattle.pce_element.specs.Seen.{Seen}
use Rattle.network_members.specs.Elements.{own_of, at_domain}
use Rattle.network_members.proofs.DomainLemmas.{same_as_is, as_self}

-- each is above the one before it, and the first not below this number
abbrev pub Rises : ℕ → List As → Type 0
Rises low [] = Unit {0}
Rises low (a ∷ as') = (low ≤ a.0) × Rises (suc a.0) as'

insert_rises : (low : ℕ) (n : As) (ds : List As) → low ≤ n.0 → Rises low ds → Rises low (insert_as n ds)
insert_rises low n [] le rises = (le, tt)
insert_rises low n (a ∷ ds) le rises = elim (cases_lt n.0 a.0) [
  | inl less ↦ rw (lt-ltb n.0 a.0 less) (le, (less, rises.1))
  | inr more ↦ rw (le-ltb n.0 a.0 more) (go (λ above. insert_rises (suc a.0) n ds above rises.1) (same_as n a) refl more)
]
  where
    go : (suc a.0 ≤ n.0 → Rises (suc a.0) (insert_as n ds)) → (b : Bool) → same_as n a ≡ b → a.0 ≤ n.0 → Rises low (cond b (a ∷ ds) (a ∷ insert_as n ds))
    go behind true is more = rises
    go behind false is more =
        let apart : n.0 ≡ a.0 → ⊥ = eqb-false n.0 a.0 is in
        (rises.0, behind (elim (cases_lt a.0 n.0) [ inl above ↦ above | inr at_most ↦ absurd (apart (omega (arith, more, at_most))) ]))

pub elements_rise : (rows : List ElementRow) → Rises 0 (elements_of rows)
elements_rise [] = tt
elements_rise (r ∷ rows) = insert_rises 0 r.own (elements_of rows) (omega arith) (elements_rise rows)

pub children_rise : (rows : List ElementRow) → Rises 0 (children_of rows)
children_rise [] = tt
children_rise (r ∷ rows) = go r.parent (children_rise rows)
  where
    go : (b : Bool) → Rises 0 (children_of rows) → Rises 0 (cond b (insert_as r.own (children_of rows)) (children_of rows))
    go true more = insert_rises 0 r.own (children_of rows) (omega arith) more
    go false more = more

above_all : (n low : ℕ) (ds : List As) → n < low → Rises low ds → All (λ (b : As). n < b.0) ds
above_all n low [] less rises = All-nil (λ (b : As). n < b.0)
above_all n low (a ∷ ds) less rises = All-cons (λ (b : As). n < b.0) a ds (omega (arith, less, rises.0)) (above_all n (suc a.0) ds (omega (arith, less, rises.0)) rises.1)

pub rise_in_pairs : (low : ℕ) (ds : List As) → Rises low ds → AllPairs (λ (a b : As). a.0 < b.0) ds
rise_in_pairs low [] rises = λ j k d below inside. absurd (omega arith)
rise_in_pairs low (a ∷ ds) rises = AllPairs-cons (λ (x y : As). x.0 < y.0) a ds (above_all a.0 (suc a.0) ds (omega arith) rises.1) (rise_in_pairs (suc a.0) ds rises.1)

-- ---- a domain among them

abbrev pub stands_in : As → List As → Bool
stands_in d [] = false
stands_in d (a ∷ as') = cond (same_as a d) true (stands_in d as')

stands_insert : (d n : As) (ds : List As) → stands_in d (insert_as n ds) ≡ cond (same_as n d) true (stands_in d ds)
stands_insert d n [] = refl
stands_insert d n (a ∷ ds) = go (stands_insert d n ds) (nat_lt n.0 a.0) (same_as n a) refl
  where
    swap : (x y z : Bool) → cond x true (cond y true z) ≡ cond y true (cond x true z)
    swap true true z = refl
    swap true false z = refl
    swap false true z = refl
    swap false false z = refl

    twice : (x z : Bool) → cond x true z ≡ cond x true (cond x true z)
    twice true z = refl
    twice false z = refl

    go : stands_in d (insert_as n ds) ≡ cond (same_as n d) true (stands_in d ds) → (b c : Bool) → same_as n a ≡ c →
        stands_in d (cond b (n ∷ a ∷ ds) (cond c (a ∷ ds) (a ∷ insert_as n ds))) ≡ cond (same_as n d) true (cond (same_as a d) true (stands_in d ds))
    go more true c is = refl
    go more false true is = twice (same_as a d) (stands_in d ds) ∙ ap (λ (x : As). cond (same_as x d) true (cond (same_as a d) true (stands_in d ds))) (sym (same_as_is n a is))
    go more false false is = ap (cond (same_as a d) true) more ∙ swap (same_as a d) (same_as n d) (stands_in d ds)

stands_rows : (d : As) (rows : List ElementRow) → stands_in d (elements_of rows) ≡ is_some (row_of d rows)
stands_rows d [] = refl
stands_rows d (r ∷ rows) = stands_insert d r.own (elements_of rows) ∙ go (same_as r.own d) (stands_rows d rows)
  where
    go : (b : Bool) → stands_in d (elements_of rows) ≡ is_some (row_of d rows) → cond b true (stands_in d (elements_of rows)) ≡ is_some (cond b (Some r) (row_of d rows))
    go true more = refl
    go false more = more

pub length_insert : (n : As) (ds : List As) → length (insert_as n ds) ≤ suc (length ds)
length_insert n [] = omega arith
length_insert n (a ∷ ds) = go (length_insert n ds) (nat_lt n.0 a.0) (same_as n a)
  where
    go : length (insert_as n ds) ≤ suc (length ds) → (b c : Bool) → length (cond b (n ∷ a ∷ ds) (cond c (a ∷ ds) (a ∷ insert_as n ds))) ≤ suc (suc (length ds))
    go more true c = omega arith
    go more false true = omega arith
    go more false false = omega (arith, more)

pub few_domains : (rows : List ElementRow) → length (elements_of rows) ≤ length rows
few_domains [] = omega arith
few_domains (r ∷ rows) = omega (arith, length_insert r.own (elements_of rows), few_domains rows)

module _ {P : Type 0} {S : Type 0} where
  stands_seen : (d : As) (es : List (Seen P S)) → stands_in d (map own_of es) ≡ is_some (at_domain d es)
  stands_seen d [] = refl
  stands_seen d (e ∷ es) = go (same_as (own_of e) d) (stands_seen d es)
    where
      go : (b : Bool) → stands_in d (map own_of es) ≡ is_some (at_domain d es) → cond b true (stands_in d (map own_of es)) ≡ is_some (cond b (Some e) (at_domain d es))
      go true more = refl
      go false more = more

  -- an element of the settings is one of the elements
  pub element_is : (n : NetworkParts) (d : As) (es : List (Seen P S)) → map own_of es ≡ elements_of n.elements → is_element n d ≡ is_some (at_domain d es)
  element_is n d es are = sym (stands_rows d n.elements) ∙ ap (stands_in d) (sym are) ∙ stands_seen d es

  -- ---- an element among those whose domains rise

  not_below : (d : As) (low : ℕ) (es : List (Seen P S)) → Rises low (map own_of es) → d.0 < low → at_domain d es ≡ None
  not_below d low [] rises less = refl
  not_below d low (e ∷ es) rises less = rw (ne_eqb (own_of e).0 d.0 (λ is. omega (arith, is, less, rises.0))) (not_below d (suc (own_of e).0) es rises.1 (omega (arith, less, rises.0)))

  -- the first is found by its domain, and each of the others is not it
  pub first_found : (e : Seen P S) (es : List (Seen P S)) → at_domain (own_of e) (e ∷ es) ≡ Some e
  first_found e es = ap (λ (b : Bool). cond b (Some e) (at_domain (own_of e) es)) (as_self (own_of e))

  -- each of these is found by its domain among all
  abbrev pub AreFound : List (Seen P S) → List (Seen P S) → Type 0
  AreFound all [] = Unit {0}
  AreFound all (e ∷ es) = (at_domain (own_of e) all ≡ Some e) × AreFound all es

  found_behind : (first : Seen P S) (all : List (Seen P S)) (x : Seen P S) → Rises (suc (own_of first).0) (map own_of all) → at_domain (own_of x) all ≡ Some x → at_domain (own_of x) (first ∷ all) ≡ Some x
  found_behind first all x rises found = go (same_as (own_of first) (own_of x)) refl
    where
      none_some : None ≡ Some x → ⊥
      none_some is = cc

      go : (b : Bool) → same_as (own_of first) (own_of x) ≡ b → cond b (Some first) (at_domain (own_of x) all) ≡ Some x
      go false is = found
      go true is =
          let one : (own_of x).0 ≡ (own_of first).0 = sym (eqb-true (own_of first).0 (own_of x).0 is) in
          absurd (none_some (sym (not_below (own_of x) (suc (own_of first).0) all rises (omega (arith, one))) ∙ found))

  found_later : (first : Seen P S) (all es : List (Seen P S)) → Rises (suc (own_of first).0) (map own_of all) → AreFound all es → AreFound (first ∷ all) es
  found_later first all [] rises are = tt
  found_later first all (e ∷ es) rises are = (found_behind first all e rises are.0, found_later first all es rises are.1)

  pub found_all : (low : ℕ) (es : List (Seen P S)) → Rises low (map own_of es) → AreFound es es
  found_all low [] rises = tt
  found_all low (e ∷ es) rises = (first_found e es, found_later e es es rises.1 (found_all (suc (own_of e).0) es rises.1))

  pub all_found : (n : NetworkParts) (es : List (Seen P S)) → map own_of es ≡ elements_of n.elements → AreFound es es
  all_found n es are = found_all 0 es (subst (λ (ds : List As). Rises 0 ds) (sym are) (elements_rise n.elements))
