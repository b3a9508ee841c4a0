-- Elements that are made one after the other.
use Rattle.std.proofs.Common.{◌≡◌, ◌<◌, ◌≤◌, ℕ, zero, suc, Bool, true, false, cond, Option, Some, None, Result, List, [], ◌∷◌, ◌++◌, length, map, take, get_or, arith, refl, sym, ◌∙◌, ap, subst}
use Rattle.std.specs.Prelude.{IfOk}
use mathlib.Core.Path.{fun_ext}
use Rattle.pce_common.specs.plant_model.Types.{As, NoMemory, Deny, NetworkParts, ElementRow}
use Rattle.plant_text.specs.Names.{same_as}
use Rattle.plant_text.specs.Settings.{row_of, life, life_from, deny_at, adjacencies}
use Rattle.pce_common.specs.plant_model.Element.{Element, Way, ElementSettings}
use Rattle.pce_common.specs.plant_model.declared.route.Route.{Route}
use Rattle.pce_common.specs.plant_model.Routes.{routes}
use Rattle.pce_common.specs.plant_model.Settings.{inner_ways, outer_way, place, place_from}
use Rattle.network_links.specs.Adjacencies.{others}
use Rattle.network_links.proofs.AdjacencyLemmas.{ways_to_others}
use Rattle.pce_element.specs.Seen.{Seen, IsNew}
use Rattle.network_members.specs.declared.fresh.Figures.{Figures}
use Rattle.network_members.specs.Elements.{own_of, at_domain, nobody, element_or, elements_in, current_or, current_in}
use Rattle.network_members.specs.Fresh.{AreNew, LivesFit, figures_from}
use Rattle.network_members.proofs.DomainLemmas.{same_as_is}

-- what an element is told of itself
pub place_is : (n : NetworkParts) (d : As) (o : Option ElementRow) → place_from d (deny_at d n.deny) (routes n d) o ≡ record { own = d; id = (figures_from o).id; parent = (figures_from o).parent; deny = deny_at d n.deny; routes = routes n d }
place_is n d None = refl
place_is n d (Some r) = refl

pub life_is : (o : Option ElementRow) → life_from o ≡ (figures_from o).key_life
life_is None = refl
life_is (Some r) = refl

pub own_place : (n : NetworkParts) (d : As) → (place n d).own ≡ d
own_place n d = ap (λ (p : ElementSettings). p.own) (place_is n d (row_of d n.elements))

abbrev pub told_of : As → Figures → List Deny → List Route → ElementSettings
told_of d f deny routes = record { own = d; id = f.id; parent = f.parent; deny = deny; routes = routes }

pub routes_place : (n : NetworkParts) (d : As) → (place n d).routes ≡ routes n d
routes_place n d = ap (λ (p : ElementSettings). p.routes) (place_is n d (row_of d n.elements))

pub life_least : (n : NetworkParts) (d : As) (f : Figures) → f ≡ figures_from (row_of d n.elements) → LivesFit n → 1 ≤ f.key_life
life_least n d f fs fit = subst (λ (k : ℕ). 1 ≤ k) (life_is (row_of d n.elements) ∙ sym (ap (λ (x : Figures). x.key_life) fs)) (fit.least d)

pub life_most : (n : NetworkParts) (d : As) (f : Figures) → f ≡ figures_from (row_of d n.elements) → LivesFit n → f.key_life ≤ 3600
life_most n d f fs fit = subst (λ (k : ℕ). k ≤ 3600) (life_is (row_of d n.elements) ∙ sym (ap (λ (x : Figures). x.key_life) fs)) (fit.most d)

module _ {P : Type 0} {S : Type 0} (initial : As → P) where
  pub one_more : (n : NetworkParts) (ds : List As) (es : List (Seen P S)) (d : As) (e : Seen P S) → AreNew initial n ds es → IsNew initial (place n d) (life n d) (others d (adjacencies n)) e → AreNew initial n (ds ++ d ∷ []) (es ++ e ∷ [])
  one_more n [] [] d e are new = (new, tt)
  one_more n [] (x ∷ es) d e are new = absurd are
  one_more n (a ∷ ds) [] d e are new = absurd are
  one_more n (a ∷ ds) (x ∷ es) d e are new = (are.0, one_more n ds es d e are.1 new)

  pub own_new : (n : NetworkParts) (d : As) (e : Seen P S) → IsNew initial (place n d) (life n d) (others d (adjacencies n)) e → own_of e ≡ d
  own_new n d e new = ap own_of new ∙ own_place n d

  pub owns_new : (n : NetworkParts) (ds : List As) (es : List (Seen P S)) → AreNew initial n ds es → map own_of es ≡ ds
  owns_new n [] [] are = refl
  owns_new n [] (e ∷ es) are = absurd are
  owns_new n (d ∷ ds) [] are = absurd are
  owns_new n (d ∷ ds) (e ∷ es) are = ap (λ (a : As). a ∷ map own_of es) (own_new n d e are.0) ∙ ap (λ (rest : List As). d ∷ rest) (owns_new n ds es are.1)

  -- a network of new elements is one whose elements have neither requests nor keys, and no topology
  new_at : (n : NetworkParts) (ds : List As) (es : List (Seen P S)) → AreNew initial n ds es → (d : As) → element_or n 0 d (at_domain d es) ≡ nobody n 0 d
  new_at n [] [] are d = refl
  new_at n [] (e ∷ es) are d = absurd are
  new_at n (a ∷ ds) [] are d = absurd are
  new_at n (a ∷ ds) (e ∷ es) are d = go (same_as (own_of e) d) refl (new_at n ds es are.1 d)
    where
      go : (b : Bool) → same_as (own_of e) d ≡ b → element_or n 0 d (at_domain d es) ≡ nobody n 0 d → element_or n 0 d (cond b (Some e) (at_domain d es)) ≡ nobody n 0 d
      go true same rest =
          ap (λ (x : Seen P S). x.losing.element) are.0
          ∙ ap (λ (ws : List Way). let k : Element P S = record { pending = record { limit = 1024; given = 0; rows = [] }; keys = record { life = life n a; next = 1; clock = 0; issued = [] }; ways = ws } in k)
          (ap (λ (ws : List Way). ws ++ map outer_way (place n a).routes) (ways_to_others a (adjacencies n)) ∙ ap (λ (rs : List Route). inner_ways n a ++ map outer_way rs) (routes_place n a))
          ∙ ap (nobody n 0) (sym (own_new n a e are.0) ∙ same_as_is (own_of e) d same)
      go false same rest = rest

  pub elements_new : (n : NetworkParts) (ds : List As) (es : List (Seen P S)) → AreNew initial n ds es → elements_in n 0 es ≡ nobody n 0
  elements_new n ds es are = fun_ext (λ d. new_at n ds es are d)

  first_at : (n : NetworkParts) (ds : List As) (es : List (Seen P S)) → AreNew initial n ds es → (d : As) → current_or initial d (at_domain d es) ≡ initial d
  first_at n [] [] are d = refl
  first_at n [] (e ∷ es) are d = absurd are
  first_at n (a ∷ ds) [] are d = absurd are
  first_at n (a ∷ ds) (e ∷ es) are d = go (same_as (own_of e) d) refl (first_at n ds es are.1 d)
    where
      go : (b : Bool) → same_as (own_of e) d ≡ b → current_or initial d (at_domain d es) ≡ initial d → current_or initial d (cond b (Some e) (at_domain d es)) ≡ initial d
      go true same rest = ap (λ (x : Seen P S). x.current) are.0 ∙ ap initial (own_place n a ∙ sym (own_new n a e are.0) ∙ same_as_is (own_of e) d same)
      go false same rest = rest

  pub currents_new : (n : NetworkParts) (ds : List As) (es : List (Seen P S)) → AreNew initial n ds es → current_in initial es ≡ initial
  currents_new n ds es are = fun_ext (λ d. first_at n ds es are d)

  -- ---- one element

  pub new_for : (n : NetworkParts) (d : As) (f : Figures) (deny : List Deny) (rs : List Route) (links : List As) (r : Result (Seen P S) NoMemory) →
      f ≡ figures_from (row_of d n.elements) → deny ≡ deny_at d n.deny → rs ≡ routes n d → links ≡ others d (adjacencies n) →
      IfOk r (IsNew initial (told_of d f deny rs) f.key_life links) → IfOk r (IsNew initial (place n d) (life n d) (others d (adjacencies n)))
  new_for n d f deny rs links r fs ds rs_are ls ok =
      subst (λ (l : List As). IfOk r (IsNew initial (place n d) (life n d) l)) ls
      (subst (λ (p : ElementSettings). IfOk r (IsNew initial p (life n d) links)) (same ∙ sym (place_is n d (row_of d n.elements)))
      (subst (λ (k : ℕ). IfOk r (IsNew initial (told_of d f deny rs) k links)) (ap (λ (x : Figures). x.key_life) fs ∙ sym (life_is (row_of d n.elements))) ok))
    where
      same : told_of d f deny rs ≡ told_of d (figures_from (row_of d n.elements)) (deny_at d n.deny) (routes n d)
      same = ap (λ (x : Figures). told_of d x deny rs) fs ∙ ap (λ (l : List Deny). told_of d (figures_from (row_of d n.elements)) l rs) ds ∙ ap (told_of d (figures_from (row_of d n.elements)) (deny_at d n.deny)) rs_are

  pub take_more : (n : NetworkParts) (ds : List As) (i : ℕ) (x : As) (es : List (Seen P S)) (e : Seen P S) → i < length ds → AreNew initial n (take i ds) es →
      IsNew initial (place n (get_or ds i x)) (life n (get_or ds i x)) (others (get_or ds i x) (adjacencies n)) e → AreNew initial n (take (suc i) ds) (es ++ e ∷ [])
  take_more n [] i x es e inside are new = absurd (omega arith)
  take_more n (a ∷ ds) zero x [] e inside are new = (new, tt)
  take_more n (a ∷ ds) zero x (y ∷ es) e inside are new = absurd are
  take_more n (a ∷ ds) (suc i) x [] e inside are new = absurd are
  take_more n (a ∷ ds) (suc i) x (y ∷ es) e inside are new = (are.0, take_more n ds i x es e (omega arith) are.1 new)

  pub take_all : (n : NetworkParts) (ds : List As) (es : List (Seen P S)) → AreNew initial n (take (length ds) ds) es → AreNew initial n ds es
  take_all n [] [] are = tt
  take_all n [] (e ∷ es) are = absurd are
  take_all n (a ∷ ds) [] are = absurd are
  take_all n (a ∷ ds) (x ∷ es) are = (are.0, take_all n ds es are.1)
