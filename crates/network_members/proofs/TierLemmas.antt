-- One member that goes on is that member of the model, and the others are as before.
use Rattle.std.proofs.Common.{◌≡◌, Bool, true, false, cond, Option, Some, None, List, [], ◌∷◌, map, refl, sym, ◌∙◌, ap, ap₂, subst}
use Rattle.std.proofs.lemmas.Bool.{false≢true}
use mathlib.Core.Path.{fun_ext}
use Rattle.pce_common.specs.plant_model.Types.{As, NetworkParts}
use Rattle.plant_text.specs.Names.{same_as, parent_as}
use Rattle.pce_common.specs.plant_model.declared.output.Lost.{Lost}
use Rattle.pce_common.specs.plant_model.Names.{set_as}
use Rattle.pce_common.specs.plant_model.Element.{Element, Losing}
use Rattle.pce_common.specs.plant_model.Parent as parent
use Rattle.pce_common.specs.plant_model.Settings.{place}
use Rattle.pce_common.specs.Membership.{Membership, with_element, with_parent}
use Rattle.pce_element.specs.Seen.{Seen}
use Rattle.pce_parent.specs.Seen as above
use Rattle.network_members.specs.Elements.{own_of, at_domain, with_seen, element_or, elements_in}
use Rattle.network_members.specs.Becoming.{Course, Becomes}
use Rattle.network_members.specs.Tiers.{Tiers, ArePlaced, AreSet, Become, members_of, lost_in, lost_or}
use Rattle.network_members.proofs.DomainLemmas.{same_as_is, as_self, at_with, set_again}
use Rattle.network_members.proofs.BecomingLemmas.{next_own, become_elements, become_currents}

pub as_sym : (a b : As) → same_as a b ≡ same_as b a
as_sym a b = go (same_as a b) refl (same_as b a) refl
  where
    go : (x : Bool) → same_as a b ≡ x → (y : Bool) → same_as b a ≡ y → same_as a b ≡ same_as b a
    go true is y also = is ∙ sym (ap (λ (c : As). same_as c a) (sym (same_as_is a b is)) ∙ as_self a)
    go false is true also = absurd (false≢true (sym is ∙ ap (λ (c : As). same_as c b) (sym (same_as_is b a also)) ∙ as_self b))
    go false is false also = is ∙ sym also

module _ {P : Type 0} {S : Type 0} where
  -- ---- the settings

  pub owns_with : (x : Seen P S) (es : List (Seen P S)) → map own_of (with_seen x es) ≡ map own_of es
  owns_with x [] = refl
  owns_with x (e ∷ es) = go (owns_with x es) (same_as (own_of e) (own_of x)) refl
    where
      go : map own_of (with_seen x es) ≡ map own_of es → (b : Bool) → same_as (own_of e) (own_of x) ≡ b → map own_of (cond b (x ∷ es) (e ∷ with_seen x es)) ≡ own_of e ∷ map own_of es
      go more true is = ap (λ (a : As). a ∷ map own_of es) (sym (same_as_is (own_of e) (own_of x) is))
      go more false is = ap (λ (rest : List As). own_of e ∷ rest) more

  pub placed_with : (n : NetworkParts) (x : Seen P S) (es : List (Seen P S)) → ArePlaced n es → x.place ≡ place n (own_of x) → ArePlaced n (with_seen x es)
  placed_with n x [] are is = tt
  placed_with n x (e ∷ es) are is = go (placed_with n x es are.1 is) (same_as (own_of e) (own_of x))
    where
      go : ArePlaced n (with_seen x es) → (b : Bool) → ArePlaced n (cond b (x ∷ es) (e ∷ with_seen x es))
      go more true = (is, are.1)
      go more false = (are.0, more)

  pub placed_at : (n : NetworkParts) (d : As) (es : List (Seen P S)) (e : Seen P S) → ArePlaced n es → at_domain d es ≡ Some e → e.place ≡ place n (own_of e)
  placed_at n d [] e are found = absurd (none_some e found)
    where
      none_some : (y : Seen P S) → None ≡ Some y → ⊥
      none_some y is = cc
  placed_at n d (y ∷ es) e are found = go (placed_at n d es e are.1) (same_as (own_of y) d) found
    where
      one : (a b : Seen P S) → Some a ≡ Some b → a ≡ b
      one a b is = cc

      go : (at_domain d es ≡ Some e → e.place ≡ place n (own_of e)) → (b : Bool) → cond b (Some y) (at_domain d es) ≡ Some e → e.place ≡ place n (own_of e)
      go more true is = subst (λ (z : Seen P S). z.place ≡ place n (own_of z)) (one y e is) are.0
      go more false is = more is

  -- ---- one element

  -- what there is at a domain
  abbrev pub losing_at : As → Tiers P S → Losing P S
  losing_at d t = record { element = elements_in t.network t.clock t.elements d; lost = lost_in t d }

  module _ (d : As) (f : Course P S) (t : Tiers P S) (es : List (Seen P S)) (b : Becomes d f t.elements es) where
    pub set_below : AreSet t → AreSet (record t { elements = es })
    set_below are =
        let one : b.one.place ≡ place t.network (own_of b.one) = placed_at t.network d t.elements b.one are.places b.found in
        let next : b.next.place ≡ place t.network (own_of b.next) = ap (λ (y : Seen P S). y.place) b.same ∙ one ∙ ap (λ (y : Seen P S). place t.network (own_of y)) (sym b.same) in
        record {
          domains = ap (map own_of) b.is ∙ owns_with b.next t.elements ∙ are.domains;
          places = subst (ArePlaced t.network) (sym b.is) (placed_with t.network b.next t.elements are.places next);
          is_family = are.is_family;
        }

    module _ (below : same_as d parent_as ≡ false) where
      pub one_is : b.one.losing ≡ losing_at d t
      one_is =
          ap₂ (λ (k : Element P S) (l : List Lost). let x : Losing P S = record { element = k; lost = l } in x)
          (ap (element_or t.network t.clock d) (sym b.found))
          (ap lost_or (sym b.found) ∙ ap (λ (c : Bool). cond c t.parent.losing.lost (lost_or (at_domain d t.elements))) (sym below))

      at_new : (d' : As) → at_domain d' es ≡ cond (same_as d d') (Some b.next) (at_domain d' t.elements)
      at_new d' =
          ap (at_domain d') b.is
          ∙ at_with b.next t.elements b.one d' (ap (λ (a : As). at_domain a t.elements) (next_own d f t.elements es b) ∙ b.found)
          ∙ ap (λ (a : As). cond (same_as a d') (Some b.next) (at_domain d' t.elements)) (next_own d f t.elements es b)

      lost_at_each : (d' : As) → cond (same_as d' parent_as) t.parent.losing.lost (lost_or (at_domain d' es)) ≡ cond (same_as d d') (f (losing_at d t)).lost (lost_in t d')
      lost_at_each d' = ap (λ (o : Option (Seen P S)). cond (same_as d' parent_as) t.parent.losing.lost (lost_or o)) (at_new d') ∙ go (same_as d d') refl
        where
          go : (q : Bool) → same_as d d' ≡ q → cond (same_as d' parent_as) t.parent.losing.lost (lost_or (cond q (Some b.next) (at_domain d' t.elements))) ≡ cond q (f (losing_at d t)).lost (lost_in t d')
          go false is = refl
          go true is =
              ap (λ (c : Bool). cond c t.parent.losing.lost b.next.losing.lost) (ap (λ (a : As). same_as a parent_as) (sym (same_as_is d d' is)) ∙ below)
              ∙ ap (λ (y : Seen P S). y.losing.lost) b.same ∙ ap (λ (l : Losing P S). (f l).lost) one_is

      pub goes_below : (initial : As → P) → Become initial t (with_element d (f (losing_at d t)).element (members_of initial t)) (set_as d (f (losing_at d t)).lost (lost_in t)) (record t { elements = es })
      goes_below initial = record {
        network = refl;
        seen =
            ap₂ (λ (ks : As → Element P S) (cs : As → P). let m : Membership P S = record { elements = ks; parent = t.parent.losing.parent; current = cs } in m)
            (become_elements d f t.elements es b t.network t.clock ∙ ap (λ (l : Losing P S). set_as d (f l).element (elements_in t.network t.clock t.elements)) one_is)
            (become_currents d f t.elements es b initial);
        lost_is = fun_ext lost_at_each;
      }

  -- an element in its own place
  pub element_again : (d : As) (k : Element P S) (ms : Membership P S) → ms.elements d ≡ k → with_element d k ms ≡ ms
  element_again d k ms is = ap (λ (ks : As → Element P S). let m : Membership P S = record ms { elements = ks } in m) (set_again d k ms.elements is)

  pub become_as : (initial : As → P) (t u : Tiers P S) (ms ms' : Membership P S) (lost lost' : As → List Lost) → ms ≡ ms' → lost ≡ lost' → Become initial t ms lost u → Become initial t ms' lost' u
  become_as initial t u ms ms' lost lost' m l b = record { network = b.network; seen = b.seen ∙ m; lost_is = b.lost_is ∙ l }

  -- ---- the parent

  module _ (f : parent.Losing → parent.Losing) (t : Tiers P S) (s : above.Seen) (same : above.SameButRoom (above.with_losing (f t.parent.losing) t.parent) s) where
    pub set_above : AreSet t → AreSet (record t { parent = s })
    set_above are = record { domains = are.domains; places = are.places; is_family = ap (λ (y : above.Seen). y.family) same ∙ are.is_family }

    lost_above : (d : As) → cond (same_as d parent_as) s.losing.lost (lost_or (at_domain d t.elements)) ≡ cond (same_as parent_as d) (f t.parent.losing).lost (lost_in t d)
    lost_above d = go (same_as d parent_as) refl
      where
        go : (c : Bool) → same_as d parent_as ≡ c → cond (same_as d parent_as) s.losing.lost (lost_or (at_domain d t.elements)) ≡ cond (same_as parent_as d) (f t.parent.losing).lost (lost_in t d)
        go true is =
            ap (λ (c : Bool). cond c s.losing.lost (lost_or (at_domain d t.elements))) is
            ∙ ap (λ (y : above.Seen). y.losing.lost) same
            ∙ sym (ap (λ (c : Bool). cond c (f t.parent.losing).lost (lost_in t d)) (as_sym parent_as d ∙ is))
        go false is =
            ap (λ (c : Bool). cond c s.losing.lost (lost_or (at_domain d t.elements))) is
            ∙ sym (ap (λ (c : Bool). cond c t.parent.losing.lost (lost_or (at_domain d t.elements))) is)
            ∙ sym (ap (λ (c : Bool). cond c (f t.parent.losing).lost (lost_in t d)) (as_sym parent_as d ∙ is))

    pub goes_above : (initial : As → P) → Become initial t (with_parent (f t.parent.losing).parent (members_of initial t)) (set_as parent_as (f t.parent.losing).lost (lost_in t)) (record t { parent = s })
    goes_above initial = record {
      network = refl;
      seen = ap (λ (y : above.Seen). with_parent y.losing.parent (members_of initial t)) same;
      lost_is = fun_ext lost_above;
    }

  -- what is lost at the parent
  pub lost_parent : (t : Tiers P S) (d : As) → same_as d parent_as ≡ true → lost_in t d ≡ t.parent.losing.lost
  lost_parent t d is = ap (λ (c : Bool). cond c t.parent.losing.lost (lost_or (at_domain d t.elements))) is
