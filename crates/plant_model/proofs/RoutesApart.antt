-- Routes of an element lead to different domains, and none of them is an element's.
use Rattle.std.proofs.Common.{◌≡◌, ◌≢◌, ◌<◌, ℕ, zero, suc, Bool, true, false, cond, List, [], ◌∷◌, ◌++◌, length, get_or, sym, ◌∙◌, ap, subst, refl, arith}
use Rattle.std.specs.Prelude.{All, AllPairs}
use Rattle.std.proofs.lemmas.Bool.{eqb-true}
use Rattle.std.proofs.lemmas.List.Elements.{All-nil, All-cons, All-head, All-tail}
use Rattle.std.proofs.lemmas.List.Kept.{AllPairs-cons}
use Rattle.plant_model.specs.Types.{As, Class, NetworkParts, PeerRow}
use Rattle.disclosure.specs.declared.class.Class.TheVariants.{Client, Neighbour, Parent}
use Rattle.plant_text.specs.Names.{same_as}
use Rattle.plant_text.specs.Settings.{is_element}
use Rattle.plant_model.specs.declared.route.Route.{Route}
use Rattle.plant_model.specs.Laws.{IsNetwork, LeadApart, LeadsOut}
use Rattle.plant_model.specs.Onwards.{RoutesDiffer, RoutesLeave}
use Rattle.plant_model.specs.Routes.{route_by, route_at, routes_from}

same_as_is : (a b : As) → same_as a b ≡ true → a ≡ b
same_as_is a b e = ap (λ (n : ℕ). let x : As = record { 0 = n } in x) (eqb-true a.0 b.0 e)

-- what holds of each peer of an element that leads out holds of its route
abbrev Gives : As → (Route → Type 0) → PeerRow → Type 0
Gives d P r = r.down ≡ true → r.at ≡ d → (b : As) → r.class ≡ Neighbour b → (k : ℕ) → P (record { next = b; peer = k })

abbrev Differ : Route → Route → Type 0
Differ a b = a.next ≢ b.next

pairs_head : (p : PeerRow) (ps : List PeerRow) → AllPairs LeadApart (p ∷ ps) → All (LeadApart p) ps
pairs_head p ps all k d below = all 0 (suc k) d (omega arith) (omega (arith, below))

pairs_tail : (p : PeerRow) (ps : List PeerRow) → AllPairs LeadApart (p ∷ ps) → AllPairs LeadApart ps
pairs_tail p ps all i j d less below = all (suc i) (suc j) d (omega (arith, less)) (omega (arith, below))

no_pairs : {X : Type 0} (R : X → X → Type 0) → AllPairs R []
no_pairs R i j d less below = absurd (omega (arith, below))

neighbour_is : (a b : As) (class : Class) → class ≡ Neighbour a → class ≡ Neighbour b → a ≡ b
neighbour_is a b class one other = let same : Neighbour a ≡ Neighbour b = sym one ∙ other in cc

module _ (d : As) where
  -- the peer's route, if it has one, and those behind
  all_at : (P : Route → Type 0) (i : ℕ) (r : PeerRow) (more : List Route) → Gives d P r → All P more → All P (route_at d i r ++ more)
  all_at P i r more gives all = go r.down refl (same_as r.at d) refl r.class refl
    where
      go : (down : Bool) → r.down ≡ down → (own : Bool) → same_as r.at d ≡ own → (class : Class) → r.class ≡ class → All P (cond down (cond own (route_by i class) []) [] ++ more)
      go true down true own (Neighbour a) class = All-cons P (record { next = a; peer = i }) more (gives down (same_as_is r.at d own) a class i) all
      go true down true own (Client may) class = all
      go true down true own Parent class = all
      go true down false own c class = all
      go false down b own c class = all

  all_from : (P : Route → Type 0) (i : ℕ) (rs : List PeerRow) → All (Gives d P) rs → All P (routes_from d i rs)
  all_from P i [] all = All-nil P
  all_from P i (r ∷ rs) all = all_at P i r (routes_from d (suc i) rs) (All-head (Gives d P) r rs all) (all_from P (suc i) rs (All-tail (Gives d P) r rs all))

  differ_at : (i : ℕ) (r : PeerRow) (rs : List PeerRow) → All (LeadApart r) rs → AllPairs Differ (routes_from d (suc i) rs) → AllPairs Differ (route_at d i r ++ routes_from d (suc i) rs)
  differ_at i r rs apart more = go r.down refl (same_as r.at d) refl r.class refl
    where
      go : (down : Bool) → r.down ≡ down → (own : Bool) → same_as r.at d ≡ own → (class : Class) → r.class ≡ class → AllPairs Differ (cond down (cond own (route_by i class) []) [] ++ routes_from d (suc i) rs)
      go true down true own (Neighbour a) class =
          AllPairs-cons Differ (record { next = a; peer = i }) (routes_from d (suc i) rs)
          (all_from (λ (x : Route). a ≢ x.next) (suc i) rs
          (λ j e within down' own' b class' k same. apart j e within down down' (same_as_is r.at d own ∙ sym own') (class ∙ ap (λ (x : As). Neighbour x) same ∙ sym class')))
          more
      go true down true own (Client may) class = more
      go true down true own Parent class = more
      go true down false own c class = more
      go false down b own c class = more

  differ_from : (i : ℕ) (rs : List PeerRow) → AllPairs LeadApart rs → AllPairs Differ (routes_from d i rs)
  differ_from i [] all = no_pairs Differ
  differ_from i (r ∷ rs) all = differ_at i r rs (pairs_head r rs all) (differ_from (suc i) rs (pairs_tail r rs all))

pub routes_differ : RoutesDiffer
routes_differ n net d = differ_from d zero n.peers net.downs_differ

leaves : (n : NetworkParts) (d : As) (p : PeerRow) → LeadsOut n p → Gives d (λ (x : Route). is_element n x.next ≡ false) p
leaves n d p is down own b class k = let out = is down in subst (λ (x : As). is_element n x ≡ false) (neighbour_is out.0 b p.class out.1 class) out.2

pub routes_leave : RoutesLeave
routes_leave n net d = all_from d (λ (x : Route). is_element n x.next ≡ false) zero n.peers (λ j e within. leaves n d (get_or n.peers j e) (net.downs j e within))
