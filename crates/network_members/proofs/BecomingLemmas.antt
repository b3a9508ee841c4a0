-- One element that becomes another, by its place and by its domain.
use Rattle.std.proofs.Common.{◌≡◌, ◌<◌, ℕ, true, is_some, Option, Some, None, List, length, map, get_or, set, refl, sym, ◌∙◌, ap, ap₂, subst}
use Rattle.std.proofs.lemmas.Bool.{false≢true}
use Rattle.std.proofs.lemmas.Grind.{get_or-set_at}
use Rattle.pce_common.specs.plant_model.Types.{As, NetworkParts}
use Rattle.pce_common.specs.plant_model.Names.{set_as}
use Rattle.pce_common.specs.plant_model.Element.{Element}
use Rattle.pce_element.specs.Seen.{Seen, SameButRoom, with_losing}
use Rattle.network_members.specs.Elements.{own_of, at_domain, elements_in, current_or, current_in, with_seen, IsFirstAt, IsNowhere}
use Rattle.network_members.specs.Becoming.{Course, Becomes, HasElement}
use Rattle.network_members.proofs.DomainLemmas.{found_own, first_own, first_within, at_first, at_nowhere, set_first, owns_set, elements_with, currents_with, set_again}

pub some_one : {A : Type 0} → (a b : A) → Some a ≡ Some b → a ≡ b
some_one a b is = cc

module _ {P : Type 0} {S : Type 0} where
  pub none_there : (d : As) (es : List (Seen P S)) → HasElement d es → IsNowhere d (map own_of es) → ⊥
  none_there d es has nowhere = false≢true (sym (ap is_some (at_nowhere d es nowhere)) ∙ has)

  pub one_there : (d : As) (es : List (Seen P S)) (e : Seen P S) → at_domain d es ≡ Some e → HasElement d es
  one_there d es e found = ap is_some found

  pub there_one : (d : As) (es : List (Seen P S)) → HasElement d es → (e : Seen P S) × (at_domain d es ≡ Some e)
  there_one d es has = go (at_domain d es) refl has
    where
      go : (o : Option (Seen P S)) → at_domain d es ≡ o → is_some o ≡ true → (e : Seen P S) × (at_domain d es ≡ Some e)
      go None is has = absurd (false≢true has)
      go (Some e) is has = (e, is)

-- ---- the element of a domain is written where it stands

module _ {P : Type 0} {S : Type 0} (d : As) (i : ℕ) (items old : List (Seen P S)) (is_old : items ≡ old) (is_first : IsFirstAt d i (map own_of old)) where
  placed : IsFirstAt d i (map own_of items)
  placed = subst (λ (es : List (Seen P S)). IsFirstAt d i (map own_of es)) (sym is_old) is_first

  pub placed_within : i < length items
  placed_within = first_within d i items placed

  pub placed_there : (e : Seen P S) → e ≡ get_or items i e → at_domain d old ≡ Some e
  placed_there e is = sym (ap (at_domain d) is_old) ∙ at_first d i items e placed ∙ ap (λ (x : Seen P S). Some x) (sym is)

  module _ (f : Course P S) (e next : Seen P S) (is : e ≡ get_or items i e) (same : SameButRoom (with_losing (f e.losing) e) next) where
    pub owns_written : map own_of (set items i next) ≡ map own_of items
    owns_written = owns_set i items next e (ap own_of same ∙ ap own_of is)

    pub written : Becomes d f old (set items i next)
    written = record {
      one = e;
      found = placed_there e is;
      next = next;
      same = same;
      is = set_first d i items next (ap own_of same ∙ ap own_of is ∙ first_own d i items e placed) placed ∙ ap (with_seen next) is_old;
    }

    pub written_there : (x : Seen P S) → x ≡ next → at_domain d (set items i next) ≡ Some x
    written_there x is_next =
        at_first d i (set items i next) next (subst (IsFirstAt d i) (sym owns_written) placed)
        ∙ ap (λ (y : Seen P S). Some y) (get_or-set_at items i i next next refl placed_within ∙ sym is_next)

-- ---- what the model has of it

module _ {P : Type 0} {S : Type 0} (d : As) (f : Course P S) (old new : List (Seen P S)) (b : Becomes d f old new) where
  pub next_own : own_of b.next ≡ d
  next_own = ap own_of b.same ∙ found_own d old b.one b.found

  next_there : at_domain (own_of b.next) old ≡ Some b.one
  next_there = ap (λ (a : As). at_domain a old) next_own ∙ b.found

  pub become_elements : (n : NetworkParts) (now : ℕ) → elements_in n now new ≡ set_as d (f b.one.losing).element (elements_in n now old)
  become_elements n now =
      ap (elements_in n now) b.is ∙ elements_with n now b.next old b.one next_there
      ∙ ap₂ (λ (a : As) (k : Element P S). set_as a k (elements_in n now old)) next_own (ap (λ (y : Seen P S). y.losing.element) b.same)

  pub become_currents : (initial : As → P) → current_in initial new ≡ current_in initial old
  become_currents initial =
      ap (current_in initial) b.is ∙ currents_with initial b.next old b.one next_there
      ∙ set_again (own_of b.next) b.next.current (current_in initial old) (ap (current_or initial (own_of b.next)) next_there ∙ sym (ap (λ (y : Seen P S). y.current) b.same))
