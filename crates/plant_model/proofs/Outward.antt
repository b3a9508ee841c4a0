-- Routes lead to outside peers that paths may go on through, and to each of them.
use Rattle.std.proofs.Common.{◌≡◌, ◌+◌, ℕ, zero, suc, Bool, true, false, cond, List, [], ◌∷◌, ◌++◌, Option, Some, None, sym, ◌∙◌, ap, subst, refl, arith}
use Rattle.std.specs.Prelude.{All, Contains}
use Rattle.std.specs.List.{AllByRecursion}
use Rattle.std.proofs.lemmas.Bool.{eqb-true, eq-eqb}
use Rattle.std.proofs.lemmas.List.Elements.{All-head, All-tail, Contains-append_left, Contains-append_right}
use Rattle.plant_model.specs.Types.{As, Class, NetworkParts, PeerRow}
use Rattle.disclosure.specs.declared.class.Class.TheVariants.{Client, Neighbour, Parent}
use Rattle.plant_text.specs.Names.{same_as}
use Rattle.plant_text.specs.Settings.{peer_row}
use Rattle.plant_model.specs.declared.route.Route.{Route}
use Rattle.plant_model.specs.Routes.{route_by, route_at, routes_from, IsRoute, RoutesGoOut, EachHasRoute, NoRoutes}

same_as_is : (a b : As) → same_as a b ≡ true → a ≡ b
same_as_is a b e = ap (λ (n : ℕ). let x : As = record { 0 = n } in x) (eqb-true a.0 b.0 e)

all_append : {X : Type 0} (P : X → Type 0) (xs ys : List X) → AllByRecursion P xs → AllByRecursion P ys → AllByRecursion P (xs ++ ys)
all_append P [] ys p q = q
all_append P (x ∷ xs) ys p q = (p.0, all_append P xs ys p.1 q)

module _ (n : NetworkParts) (d : As) where
  -- the peers of the settings from a place on
  abbrev AreFrom : ℕ → List PeerRow → Type 0
  AreFrom i rs = (j : ℕ) (r : PeerRow) → peer_row j rs ≡ Some r → peer_row (j + i) n.peers ≡ Some r

  here : (i : ℕ) (r : PeerRow) (rs : List PeerRow) → AreFrom i (r ∷ rs) → peer_row i n.peers ≡ Some r
  here i r rs from = subst (λ (k : ℕ). peer_row k n.peers ≡ Some r) (omega arith) (from zero r refl)

  further : (i : ℕ) (r : PeerRow) (rs : List PeerRow) → AreFrom i (r ∷ rs) → AreFrom (suc i) rs
  further i r rs from j s at = subst (λ (k : ℕ). peer_row k n.peers ≡ Some s) (omega arith) (from (suc j) s at)

  one_route : (i : ℕ) (r : PeerRow) → peer_row i n.peers ≡ Some r → AllByRecursion (IsRoute n d) (route_at d i r)
  one_route i r at = go r.down refl (same_as r.at d) refl r.class refl
    where
      go : (down : Bool) → r.down ≡ down → (own : Bool) → same_as r.at d ≡ own → (class : Class) → r.class ≡ class → AllByRecursion (IsRoute n d) (cond down (cond own (route_by i class) []) [])
      go true down true own (Neighbour a) class = (record { row = r; at = at; own = same_as_is r.at d own; down = down; class = class }, tt)
      go true down true own (Client may) class = tt
      go true down true own Parent class = tt
      go true down false own c class = tt
      go false down b own c class = tt

  each_route : (i : ℕ) (rs : List PeerRow) → AreFrom i rs → AllByRecursion (IsRoute n d) (routes_from d i rs)
  each_route i [] from = tt
  each_route i (r ∷ rs) from = all_append (IsRoute n d) (route_at d i r) (routes_from d (suc i) rs) (one_route i r (here i r rs from)) (each_route (suc i) rs (further i r rs from))

pub routes_go_out : RoutesGoOut
routes_go_out n d = each_route n d zero n.peers (λ j r at. subst (λ (k : ℕ). peer_row k n.peers ≡ Some r) (omega arith) at)

route_is : (d b : As) (k : ℕ) (r : PeerRow) → r.at ≡ d → r.down ≡ true → r.class ≡ Neighbour b → route_at d k r ≡ record { next = b; peer = k } ∷ []
route_is d b k r own down class =
    ap (λ (x : Bool). cond x (cond (same_as r.at d) (route_by k r.class) []) []) down
    ∙ ap (λ (x : Bool). cond x (route_by k r.class) []) (eq-eqb r.at.0 d.0 (ap (λ (a : As). a.0) own)) ∙ ap (λ (x : Class). route_by k x) class

has_route : (d b : As) (k : ℕ) (rs : List PeerRow) (i : ℕ) (r : PeerRow) → peer_row i rs ≡ Some r → r.at ≡ d → r.down ≡ true → r.class ≡ Neighbour b →
    Contains (routes_from d k rs) (record { next = b; peer = i + k })
has_route d b k [] zero r e own down class = absurd (no e)
  where
    no : ◌≡◌ {A = Option PeerRow} None (Some r) → ⊥
    no h = cc
has_route d b k [] (suc i) r e own down class = absurd (no e)
  where
    no : ◌≡◌ {A = Option PeerRow} None (Some r) → ⊥
    no h = cc
has_route d b k (s ∷ rs) zero r e own down class =
    let same : s ≡ r = cc in
    let is : route_at d k s ≡ record { next = b; peer = k } ∷ [] = ap (λ (x : PeerRow). route_at d k x) same ∙ route_is d b k r own down class in
    Contains-append_left (route_at d k s) (routes_from d (suc k) rs) (record { next = b; peer = zero + k })
    (subst (λ (xs : List Route). Contains xs (record { next = b; peer = zero + k })) (sym is) (zero, omega arith, ap (λ (j : ℕ). let x : Route = record { next = b; peer = j } in x) (omega arith)))
has_route d b k (s ∷ rs) (suc i) r e own down class =
    Contains-append_right (route_at d k s) (routes_from d (suc k) rs) (record { next = b; peer = suc i + k })
    (subst (λ (j : ℕ). Contains (routes_from d (suc k) rs) (record { next = b; peer = j })) (omega arith) (has_route d b (suc k) rs i r e own down class))

pub each_has_route : EachHasRoute
each_has_route n d b i r e own down class = subst (λ (j : ℕ). Contains (routes_from d zero n.peers) (record { next = b; peer = j })) (omega arith) (has_route d b zero n.peers i r e own down class)

none_from : (d : As) (i : ℕ) (rs : List PeerRow) → All (λ (r : PeerRow). r.down ≡ false) rs → routes_from d i rs ≡ []
none_from d i [] all = refl
none_from d i (r ∷ rs) all =
    ap (λ (down : Bool). cond down (cond (same_as r.at d) (route_by i r.class) []) [] ++ routes_from d (suc i) rs) (All-head (λ (r : PeerRow). r.down ≡ false) r rs all)
    ∙ none_from d (suc i) rs (All-tail (λ (r : PeerRow). r.down ≡ false) r rs all)

pub no_routes : NoRoutes
no_routes n d all = none_from d zero n.peers all
