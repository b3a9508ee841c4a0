-- The members of a network that has just been made are those of the model's beginning.
use Rattle.std.proofs.Common.{◌≡◌, Bool, true, false, cond, Some, List, [], ◌∷◌, refl, sym, ◌∙◌, ap, ap₂}
use Rattle.pce_common.specs.plant_model.Types.{As, Addr, NetworkParts, Hop}
use Rattle.plant_text.specs.Names.{same_as, parent_as}
use Rattle.plant_text.specs.Networks.{ObeysRules}
use Rattle.plant_text.specs.Settings.{elements_of}
use Rattle.pce_common.specs.plant_model.Element.{Element, Way}
use Rattle.pce_common.specs.plant_model.Parent as parent
use Rattle.pce_common.specs.plant_model.Settings.{family, place}
use Rattle.pce_common.specs.Membership.{Membership}
use Rattle.pce_element.specs.Seen.{Seen}
use Rattle.pce_parent.specs.Seen as above
use Rattle.network_members.specs.Elements.{own_of, at_domain}
use Rattle.network_members.specs.Fresh.{AreNew, begun}
use Rattle.network_members.specs.Tiers.{Tiers, ArePlaced, AreSet, members_of, lost_in, lost_or}
use Rattle.network_members.proofs.FreshLemmas.{elements_new, currents_new, owns_new, own_new}
use Rattle.network_members.proofs.JoinedLemmas.{ways_above}

abbrev pub beginning : {P : Type 0} {S : Type 0} → NetworkParts → List (Seen P S) → above.Seen → Tiers P S
beginning n es s = record { network = n; clock = 0; elements = es; parent = s }

module _ {P : Type 0} {S : Type 0} (initial : As → P) where
  pub placed_new : (n : NetworkParts) (ds : List As) (es : List (Seen P S)) → AreNew initial n ds es → ArePlaced n es
  placed_new n [] [] are = tt
  placed_new n [] (e ∷ es) are = absurd are
  placed_new n (d ∷ ds) [] are = absurd are
  placed_new n (d ∷ ds) (e ∷ es) are = (ap (λ (x : Seen P S). x.place) are.0 ∙ ap (place n) (sym (own_new initial n d e are.0)), placed_new n ds es are.1)

  pub set_new : (n : NetworkParts) (es : List (Seen P S)) (id : Addr) (s : above.Seen) → AreNew initial n (elements_of n.elements) es → above.IsNew id (family n) s → AreSet (beginning n es s)
  set_new n es id s are new = record {
    domains = owns_new initial n (elements_of n.elements) es are;
    places = placed_new n (elements_of n.elements) es are;
    is_family = ap (λ (x : above.Seen). x.family) new;
  }

  lost_each : (n : NetworkParts) (ds : List As) (es : List (Seen P S)) → AreNew initial n ds es → (d : As) → lost_or (at_domain d es) ≡ []
  lost_each n [] [] are d = refl
  lost_each n [] (e ∷ es) are d = absurd are
  lost_each n (a ∷ ds) [] are d = absurd are
  lost_each n (a ∷ ds) (e ∷ es) are d = go (lost_each n ds es are.1 d) (same_as (own_of e) d)
    where
      go : lost_or (at_domain d es) ≡ [] → (b : Bool) → lost_or (cond b (Some e) (at_domain d es)) ≡ []
      go more true = ap (λ (x : Seen P S). x.losing.lost) are.0
      go more false = more

  pub none_lost : (n : NetworkParts) (es : List (Seen P S)) (id : Addr) (s : above.Seen) → AreNew initial n (elements_of n.elements) es → above.IsNew id (family n) s → (d : As) → lost_in (beginning n es s) d ≡ []
  none_lost n es id s are new d = go (same_as d parent_as)
    where
      go : (b : Bool) → cond b s.losing.lost (lost_or (at_domain d es)) ≡ []
      go true = ap (λ (x : above.Seen). x.losing.lost) new
      go false = lost_each n (elements_of n.elements) es are d

module _ {P : Type 0} {S : Type 0} (initial : As → P) (show : S → List Hop) where
  pub begun_is : (n : NetworkParts) (es : List (Seen P S)) (id : Addr) (s : above.Seen) → ObeysRules n → AreNew initial n (elements_of n.elements) es → above.IsNew id (family n) s → members_of initial (beginning n es s) ≡ begun initial show n
  begun_is n es id s net are new =
      let parent_is : s.losing.parent ≡ (begun initial show n).parent =
      ap (λ (x : above.Seen). x.losing.parent) new
      ∙ ap (λ (ws : List Way). let k : parent.Parent = record { pending = record { limit = 64; given = 0; rows = [] }; ways = ws } in k) (ways_above n net) in
      ap₂ (λ (ks : As → Element P S) (cs : As → P). let m : Membership P S = record { elements = ks; parent = s.losing.parent; current = cs } in m)
      (elements_new initial n (elements_of n.elements) es are) (currents_new initial n (elements_of n.elements) es are)
      ∙ ap (λ (k : parent.Parent). let m : Membership P S = record { elements = (begun initial show n).elements; parent = k; current = (begun initial show n).current } in m) parent_is
