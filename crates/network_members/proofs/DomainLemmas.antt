-- Elements found by their domains, and one in another's place.
use Rattle.std.proofs.Common.{◌≡◌, ◌<◌, ◌≤◌, ℕ, zero, suc, Bool, true, false, cond, Some, None, List, [], ◌∷◌, length, map, get_or, set, arith, refl, sym, ◌∙◌, ap}
use Rattle.std.proofs.lemmas.Bool.{eqb-true, eq-eqb, false≢true}
use mathlib.Core.Path.{fun_ext}
use Rattle.pce_common.specs.plant_model.Types.{As, NetworkParts}
use Rattle.plant_text.specs.Names.{same_as}
use Rattle.pce_common.specs.plant_model.Names.{set_as}
use Rattle.pce_element.specs.Seen.{Seen}
use Rattle.network_members.specs.Elements.{own_of, at_domain, with_seen, element_or, elements_in, current_or, current_in, IsFirstAt, IsNowhere}

pub same_as_is : (a b : As) → same_as a b ≡ true → a ≡ b
same_as_is a b e = ap (λ (n : ℕ). let x : As = record { 0 = n } in x) (eqb-true a.0 b.0 e)

pub as_self : (d : As) → same_as d d ≡ true
as_self d = eq-eqb d.0 d.0 refl

-- ---- places

abbrev pub Skips : As → ℕ → List As → Type 0
Skips d zero as' = Unit {0}
Skips d (suc i) [] = Unit {0}
Skips d (suc i) (a ∷ as') = (same_as a d ≡ false) × Skips d i as'

pub skips_more : (d : As) (i : ℕ) (xs : List As) (x : As) → Skips d i xs → i < length xs → same_as (get_or xs i x) d ≡ false → Skips d (suc i) xs
skips_more d i [] x skips within other = tt
skips_more d zero (a ∷ xs) x skips within other = (other, tt)
skips_more d (suc i) (a ∷ xs) x skips within other = (skips.0, skips_more d i xs x skips.1 (omega arith) other)

pub skips_here : (d : As) (i : ℕ) (xs : List As) (x : As) → Skips d i xs → i < length xs → same_as (get_or xs i x) d ≡ true → IsFirstAt d i xs
skips_here d i [] x skips within same = absurd (omega arith)
skips_here d zero (a ∷ xs) x skips within same = same
skips_here d (suc i) (a ∷ xs) x skips within same = (skips.0, skips_here d i xs x skips.1 (omega arith) same)

pub skips_all : (d : As) (i : ℕ) (xs : List As) → Skips d i xs → length xs ≤ i → IsNowhere d xs
skips_all d i [] skips past = tt
skips_all d zero (a ∷ xs) skips past = absurd (omega arith)
skips_all d (suc i) (a ∷ xs) skips past = (skips.0, skips_all d i xs skips.1 (omega arith))

module _ {P : Type 0} {S : Type 0} where
  pub first_within : (d : As) (i : ℕ) (es : List (Seen P S)) → IsFirstAt d i (map own_of es) → i < length es
  first_within d i [] first = absurd first
  first_within d zero (e ∷ es) first = omega arith
  first_within d (suc i) (e ∷ es) first = omega (arith, first_within d i es first.1)

  pub first_own : (d : As) (i : ℕ) (es : List (Seen P S)) (x : Seen P S) → IsFirstAt d i (map own_of es) → own_of (get_or es i x) ≡ d
  first_own d i [] x first = absurd first
  first_own d zero (e ∷ es) x first = same_as_is (own_of e) d first
  first_own d (suc i) (e ∷ es) x first = first_own d i es x first.1

  pub at_nowhere : (d : As) (es : List (Seen P S)) → IsNowhere d (map own_of es) → at_domain d es ≡ None
  at_nowhere d [] none = refl
  at_nowhere d (e ∷ es) none = rw none.0 (at_nowhere d es none.1)

  pub at_first : (d : As) (i : ℕ) (es : List (Seen P S)) (x : Seen P S) → IsFirstAt d i (map own_of es) → at_domain d es ≡ Some (get_or es i x)
  at_first d i [] x first = absurd first
  at_first d zero (e ∷ es) x first = rw first refl
  at_first d (suc i) (e ∷ es) x first = rw first.0 (at_first d i es x first.1)

  -- ---- one in another's place

  pub set_first : (d : As) (i : ℕ) (es : List (Seen P S)) (x : Seen P S) → own_of x ≡ d → IsFirstAt d i (map own_of es) → set es i x ≡ with_seen x es
  set_first d i [] x own first = absurd first
  set_first d zero (e ∷ es) x own first = rw (ap (same_as (own_of e)) own ∙ first) refl
  set_first d (suc i) (e ∷ es) x own first = rw (ap (same_as (own_of e)) own ∙ first.0) (ap (λ (rest : List (Seen P S)). e ∷ rest) (set_first d i es x own first.1))

  pub owns_set : (i : ℕ) (es : List (Seen P S)) (x y : Seen P S) → own_of x ≡ own_of (get_or es i y) → map own_of (set es i x) ≡ map own_of es
  owns_set i [] x y own = refl
  owns_set zero (e ∷ es) x y own = ap (λ (a : As). a ∷ map own_of es) own
  owns_set (suc i) (e ∷ es) x y own = ap (λ (rest : List As). own_of e ∷ rest) (owns_set i es x y own)

  -- the element of its domain is the new one, and the others are as before
  pub at_with : (x : Seen P S) (es : List (Seen P S)) (e : Seen P S) (d : As) → at_domain (own_of x) es ≡ Some e → at_domain d (with_seen x es) ≡ cond (same_as (own_of x) d) (Some x) (at_domain d es)
  at_with x [] e d found = absurd (none_some e found)
    where
      none_some : (y : Seen P S) → None ≡ Some y → ⊥
      none_some y is = cc
  at_with x (y ∷ es) e d found = go (at_with x es e d) (same_as (own_of y) (own_of x)) refl found
    where
      go : (at_domain (own_of x) es ≡ Some e → at_domain d (with_seen x es) ≡ cond (same_as (own_of x) d) (Some x) (at_domain d es)) → (b : Bool) → same_as (own_of y) (own_of x) ≡ b → cond b (Some y) (at_domain (own_of x) es) ≡ Some e →
          at_domain d (cond b (x ∷ es) (y ∷ with_seen x es)) ≡ cond (same_as (own_of x) d) (Some x) (cond (same_as (own_of y) d) (Some y) (at_domain d es))
      go more true is there = pick (same_as (own_of x) d) (same_as (own_of y) d) (ap (λ (a : As). same_as a d) (sym (same_as_is (own_of y) (own_of x) is)))
        where
          pick : (b c : Bool) → b ≡ c → cond b (Some x) (at_domain d es) ≡ cond b (Some x) (cond c (Some y) (at_domain d es))
          pick true c same = refl
          pick false false same = refl
          pick false true same = absurd (false≢true same)
      go more false is there = ap (cond (same_as (own_of y) d) (Some y)) (more there) ∙ apart (same_as (own_of y) d) refl (same_as (own_of x) d) refl
        where
          both : same_as (own_of y) d ≡ true → same_as (own_of x) d ≡ true → ⊥
          both one other = false≢true (sym is ∙ ap (same_as (own_of y)) (same_as_is (own_of x) d other) ∙ one)

          apart : (b : Bool) → same_as (own_of y) d ≡ b → (c : Bool) → same_as (own_of x) d ≡ c →
              cond b (Some y) (cond c (Some x) (at_domain d es)) ≡ cond c (Some x) (cond b (Some y) (at_domain d es))
          apart true one true other = absurd (both one other)
          apart true one false other = refl
          apart false one true other = refl
          apart false one false other = refl

  pub found_own : (d : As) (es : List (Seen P S)) (e : Seen P S) → at_domain d es ≡ Some e → own_of e ≡ d
  found_own d [] e found = absurd (none_some e found)
    where
      none_some : (y : Seen P S) → None ≡ Some y → ⊥
      none_some y is = cc
  found_own d (y ∷ es) e found = go (found_own d es e) (same_as (own_of y) d) refl found
    where
      one : (a b : Seen P S) → Some a ≡ Some b → a ≡ b
      one a b is = cc

      go : (at_domain d es ≡ Some e → own_of e ≡ d) → (b : Bool) → same_as (own_of y) d ≡ b → cond b (Some y) (at_domain d es) ≡ Some e → own_of e ≡ d
      go more true same is = ap own_of (sym (one y e is)) ∙ same_as_is (own_of y) d same
      go more false same is = more is

  -- ---- what the model has of them

  pub currents_with : (initial : As → P) (x : Seen P S) (es : List (Seen P S)) (e : Seen P S) → at_domain (own_of x) es ≡ Some e → current_in initial (with_seen x es) ≡ set_as (own_of x) x.current (current_in initial es)
  currents_with initial x es e found = fun_ext (λ d. ap (current_or initial d) (at_with x es e d found) ∙ go d (same_as (own_of x) d))
    where
      go : (d : As) (b : Bool) → current_or initial d (cond b (Some x) (at_domain d es)) ≡ cond b x.current (current_or initial d (at_domain d es))
      go d true = refl
      go d false = refl

  pub elements_with : (n : NetworkParts) (now : ℕ) (x : Seen P S) (es : List (Seen P S)) (e : Seen P S) → at_domain (own_of x) es ≡ Some e → elements_in n now (with_seen x es) ≡ set_as (own_of x) x.losing.element (elements_in n now es)
  elements_with n now x es e found = fun_ext (λ d. ap (element_or n now d) (at_with x es e d found) ∙ go d (same_as (own_of x) d))
    where
      go : (d : As) (b : Bool) → element_or n now d (cond b (Some x) (at_domain d es)) ≡ cond b x.losing.element (element_or n now d (at_domain d es))
      go d true = refl
      go d false = refl

-- a map with what it has at a place
pub set_again : {A : Type 0} → (d : As) (v : A) (f : As → A) → f d ≡ v → set_as d v f ≡ f
set_again d v f is = fun_ext (λ d'. go d' (same_as d d') refl)
  where
    go : (d' : As) (b : Bool) → same_as d d' ≡ b → cond b v (f d') ≡ f d'
    go d' true same = sym is ∙ ap f (same_as_is d d' same)
    go d' false same = refl
