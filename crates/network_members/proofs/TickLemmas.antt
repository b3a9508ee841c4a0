-- All elements come to a moment, and how many requests are pending at all.
use Rattle.std.proofs.Common.{◌≡◌, ◌<◌, ◌≤◌, ◌+◌, ℕ, zero, suc, Bool, true, false, cond, is_some, Option, Some, List, [], ◌∷◌, length, map, drop, get_or, set, arith, refl, sym, ◌∙◌, ap, ap₂, subst}
use Rattle.std.proofs.lemmas.List.{at_drop_more}
use mathlib.Core.Path.{fun_ext}
use Rattle.pce_common.specs.plant_model.Types.{As, NetworkParts}
use Rattle.plant_text.specs.Names.{same_as, parent_as}
use Rattle.plant_text.specs.Settings.{elements_of, is_element}
use Rattle.pce_common.specs.plant_model.Element.{Element, ticked}
use Rattle.pce_common.specs.plant_model.Settings.{place}
use Rattle.pce_common.specs.Membership.{Membership, KeysBefore, expired}
use Rattle.pce_common.specs.Owed.{pending_at}
use Rattle.pce_element.specs.Seen.{Seen, SameButRoom, with_losing}
use Rattle.network_members.specs.Elements.{own_of, at_domain, element_or, elements_in, current_or}
use Rattle.network_members.specs.Becoming.{AreBefore, AreTicked, TickedTo, all_pending, pending_of, ticked_by}
use Rattle.network_members.specs.Tiers.{Tiers, ArePlaced, AreSet, Become, members_of, lost_in, lost_or}
use Rattle.network_members.proofs.RisingDomains.{AreFound, all_found, element_is}

module _ {P : Type 0} {S : Type 0} (initial : As → P) where
  -- ---- one more

  pub ticked_more : (now i : ℕ) (old mid : List (Seen P S)) (e next : Seen P S) → TickedTo now i old mid → i < length old → e ≡ get_or mid i e → SameButRoom (with_losing (ticked_by now e.losing) e) next → TickedTo now (suc i) old (set mid i next)
  ticked_more now i [] mid e next to within is same = absurd (omega (arith, within))
  ticked_more now zero (x ∷ xs) mid e next to within is same =
      subst (λ (es : List (Seen P S)). TickedTo now (suc zero) (x ∷ xs) (set es zero next)) (sym to)
      (subst (λ (y : Seen P S). SameButRoom (with_losing (ticked_by now y.losing) y) next) (is ∙ ap (λ (es : List (Seen P S)). get_or es zero e) to) same, refl)
  ticked_more now (suc i) (x ∷ xs) [] e next to within is same = absurd to
  ticked_more now (suc i) (x ∷ xs) (y ∷ ys) e next to within is same = (to.0, ticked_more now i xs ys e next to.1 (omega (arith, within)) is same)

  pub ticked_length : (now i : ℕ) (old new : List (Seen P S)) → TickedTo now i old new → length new ≡ length old
  ticked_length now zero old new to = ap length to
  ticked_length now (suc i) [] [] to = refl
  ticked_length now (suc i) [] (y ∷ ys) to = absurd to
  ticked_length now (suc i) (x ∷ xs) [] to = absurd to
  ticked_length now (suc i) (x ∷ xs) (y ∷ ys) to = ap suc (ticked_length now i xs ys to.1)

  -- the next one is as it was
  pub before_at : (now i : ℕ) (old new : List (Seen P S)) (e : Seen P S) → TickedTo now i old new → AreBefore now old → i < length old → e ≡ get_or new i e → e.losing.element.keys.clock ≤ now
  before_at now i [] new e to before within is = absurd (omega (arith, within))
  before_at now zero (x ∷ xs) new e to before within is = subst (λ (y : Seen P S). y.losing.element.keys.clock ≤ now) (sym (is ∙ ap (λ (es : List (Seen P S)). get_or es zero e) to)) before.0
  before_at now (suc i) (x ∷ xs) [] e to before within is = absurd to
  before_at now (suc i) (x ∷ xs) (y ∷ ys) e to before within is = before_at now i xs ys e to.1 before.1 (omega (arith, within)) is

  -- ---- all of them

  pub owns_ticked : (now : ℕ) (old new : List (Seen P S)) → AreTicked now old new → map own_of new ≡ map own_of old
  owns_ticked now [] new to = ap (map own_of) to
  owns_ticked now (x ∷ xs) [] to = absurd to
  owns_ticked now (x ∷ xs) (y ∷ ys) to = ap₂ (λ (a : As) (rest : List As). a ∷ rest) (ap own_of to.0) (owns_ticked now xs ys to.1)

  pub placed_ticked : (n : NetworkParts) (now : ℕ) (old new : List (Seen P S)) → AreTicked now old new → ArePlaced n old → ArePlaced n new
  placed_ticked n now [] new to are = subst (ArePlaced n) (sym to) tt
  placed_ticked n now (x ∷ xs) [] to are = absurd to
  placed_ticked n now (x ∷ xs) (y ∷ ys) to are = (subst (λ (z : Seen P S). z.place ≡ place n (own_of z)) (sym to.0) are.0, placed_ticked n now xs ys to.1 are.1)

  module _ (n : NetworkParts) (clock now : ℕ) (d : As) where
    elements_each : (old new : List (Seen P S)) → AreTicked now old new → element_or n now d (at_domain d new) ≡ ticked now (element_or n clock d (at_domain d old))
    elements_each [] new to = ap (λ (es : List (Seen P S)). element_or n now d (at_domain d es)) to
    elements_each (x ∷ xs) [] to = absurd to
    elements_each (x ∷ xs) (y ∷ ys) to = ap (λ (a : As). element_or n now d (cond (same_as a d) (Some y) (at_domain d ys))) (ap own_of to.0) ∙ go (elements_each xs ys to.1) (same_as (own_of x) d)
      where
        go : element_or n now d (at_domain d ys) ≡ ticked now (element_or n clock d (at_domain d xs)) → (b : Bool) → element_or n now d (cond b (Some y) (at_domain d ys)) ≡ ticked now (element_or n clock d (cond b (Some x) (at_domain d xs)))
        go more true = ap (λ (z : Seen P S). z.losing.element) to.0
        go more false = more

    currents_each : (old new : List (Seen P S)) → AreTicked now old new → current_or initial d (at_domain d new) ≡ current_or initial d (at_domain d old)
    currents_each [] new to = ap (λ (es : List (Seen P S)). current_or initial d (at_domain d es)) to
    currents_each (x ∷ xs) [] to = absurd to
    currents_each (x ∷ xs) (y ∷ ys) to = ap (λ (a : As). current_or initial d (cond (same_as a d) (Some y) (at_domain d ys))) (ap own_of to.0) ∙ go (currents_each xs ys to.1) (same_as (own_of x) d)
      where
        go : current_or initial d (at_domain d ys) ≡ current_or initial d (at_domain d xs) → (b : Bool) → current_or initial d (cond b (Some y) (at_domain d ys)) ≡ current_or initial d (cond b (Some x) (at_domain d xs))
        go more true = ap (λ (z : Seen P S). z.current) to.0
        go more false = more

    lost_each : (old new : List (Seen P S)) → AreTicked now old new → lost_or (at_domain d new) ≡ lost_or (at_domain d old)
    lost_each [] new to = ap (λ (es : List (Seen P S)). lost_or (at_domain d es)) to
    lost_each (x ∷ xs) [] to = absurd to
    lost_each (x ∷ xs) (y ∷ ys) to = ap (λ (a : As). lost_or (cond (same_as a d) (Some y) (at_domain d ys))) (ap own_of to.0) ∙ go (lost_each xs ys to.1) (same_as (own_of x) d)
      where
        go : lost_or (at_domain d ys) ≡ lost_or (at_domain d xs) → (b : Bool) → lost_or (cond b (Some y) (at_domain d ys)) ≡ lost_or (cond b (Some x) (at_domain d xs))
        go more true = ap (λ (z : Seen P S). z.losing.lost) to.0
        go more false = more

  module _ (now : ℕ) (t : Tiers P S) (es : List (Seen P S)) (to : AreTicked now t.elements es) where
    abbrev after : Tiers P S
    after = record t { clock = now; elements = es }

    pub set_ticked : AreSet t → AreSet after
    set_ticked are = record {
      domains = owns_ticked now t.elements es to ∙ are.domains;
      places = placed_ticked t.network now t.elements es to are.places;
      is_family = are.is_family;
    }

    pub goes_ticked : Become initial t (expired now (members_of initial t)) (lost_in t) after
    goes_ticked = record {
      network = refl;
      seen =
          ap₂ (λ (ks : As → Element P S) (cs : As → P). let m : Membership P S = record { elements = ks; parent = t.parent.losing.parent; current = cs } in m)
          (fun_ext (λ d. elements_each t.network t.clock now d t.elements es to))
          (fun_ext (λ d. currents_each t.network t.clock now d t.elements es to));
      lost_is = fun_ext (λ d. ap (cond (same_as d parent_as) t.parent.losing.lost) (lost_each t.network t.clock now d t.elements es to));
    }

  -- ---- what is asked of each element

  some_known : (n : NetworkParts) (all : List (Seen P S)) (e : Seen P S) → map own_of all ≡ elements_of n.elements → at_domain (own_of e) all ≡ Some e → is_element n (own_of e) ≡ true
  some_known n all e are found = element_is n (own_of e) all are ∙ ap is_some found

  before_each : (now clock : ℕ) (n : NetworkParts) (all es : List (Seen P S)) → map own_of all ≡ elements_of n.elements → ((d : As) → is_element n d ≡ true → (elements_in n clock all d).keys.clock ≤ now) → AreFound all es → AreBefore now es
  before_each now clock n all [] are keys found = tt
  before_each now clock n all (e ∷ es) are keys found =
      (subst (λ (o : Option (Seen P S)). (element_or n clock (own_of e) o).keys.clock ≤ now) found.0 (keys (own_of e) (some_known n all e are found.0)), before_each now clock n all es are keys found.1)

  pub are_before : (now : ℕ) (t : Tiers P S) → AreSet t → KeysBefore now t.network (members_of initial t) → AreBefore now t.elements
  are_before now t are keys = before_each now t.clock t.network t.elements t.elements are.domains keys (all_found t.network t.elements are.domains)

  pending_each : (n : NetworkParts) (clock : ℕ) (ms : Membership P S) (all es : List (Seen P S)) → ms.elements ≡ elements_in n clock all → AreFound all es → pending_at (map own_of es) ms ≡ all_pending es
  pending_each n clock ms all [] are found = refl
  pending_each n clock ms all (e ∷ es) are found =
      ap₂ (λ (a b : ℕ). a + b)
      (ap (λ (ks : As → Element P S). length (ks (own_of e)).pending.rows) are ∙ ap (λ (o : Option (Seen P S)). length (element_or n clock (own_of e) o).pending.rows) found.0)
      (pending_each n clock ms all es are found.1)

  pub pending_is : (t : Tiers P S) → AreSet t → pending_at (elements_of t.network.elements) (members_of initial t) ≡ all_pending t.elements
  pending_is t are =
      ap (λ (ds : List As). pending_at ds (members_of initial t)) (sym are.domains)
      ∙ pending_each t.network t.clock (members_of initial t) t.elements t.elements refl (all_found t.network t.elements are.domains)

  pub length_owns : (es : List (Seen P S)) → length (map own_of es) ≡ length es
  length_owns [] = refl
  length_owns (e ∷ es) = ap suc (length_owns es)

-- the pending requests of one element, and of those behind it
pub pending_next : {P : Type 0} {S : Type 0} → (all here : List (Seen P S)) (i : ℕ) (e : Seen P S) → here ≡ all → i < length here → e ≡ get_or here i e → all_pending (drop i all) ≡ pending_of e + all_pending (drop (i + 1) all)
pending_next {P = P} {S = S} all here i e same within is =
    at_drop_more all_pending all i e (subst (λ (es : List (Seen P S)). i < length es) same within)
    ∙ ap (λ (x : Seen P S). pending_of x + all_pending (drop (i + 1) all)) (sym (is ∙ ap (λ (es : List (Seen P S)). get_or es i e) same))
