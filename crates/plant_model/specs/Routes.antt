-- To which peer requests for a domain go: to its own element, or to an outside peer that paths may go on through.
use Rattle.std.specs.Prelude.{◌≡◌, ℕ, suc, true, false, cond, All, Contains, List, [], ◌∷◌, ◌++◌, Some}
use Rattle.std.specs.List.{AllByRecursion}
use Rattle.plant_model.specs.Types.{As, Peer, Outside, Inner, Class, NetworkParts, PeerRow}
use Rattle.disclosure.specs.declared.class.Class.TheVariants.{Client, Neighbour, Parent}
use Rattle.plant_text.specs.Names.{same_as}
use Rattle.plant_text.specs.Settings.{peer_row}
use Rattle.plant_model.specs.declared.route.Route.{Route}

-- the peer that is asked for a domain: that of the first route there, else the domain's own element
abbrev pub toward : As → List Route → Peer
toward b [] = Inner b
toward b (r ∷ rs) = cond (same_as r.next b) (Outside r.peer) (toward b rs)

-- ---- as the settings have it

abbrev pub route_by : ℕ → Class → List Route
route_by i (Neighbour a) = record { next = a; peer = i } ∷ []
route_by i (Client may) = []
route_by i Parent = []

-- by a peer of the element, where paths may go on through it
abbrev pub route_at : As → ℕ → PeerRow → List Route
route_at d i r = cond r.down (cond (same_as r.at d) (route_by i r.class) []) []

abbrev pub routes_from : As → ℕ → List PeerRow → List Route
routes_from d i [] = []
routes_from d i (r ∷ rs) = route_at d i r ++ routes_from d (suc i) rs

abbrev pub routes : NetworkParts → As → List Route
routes n d = routes_from d 0 n.peers

-- paths go on through no outside peer
abbrev pub StaysInside : NetworkParts → Type 0
StaysInside n = All (λ (r : PeerRow). r.down ≡ false) n.peers

-- ---- laws

-- an outside peer of the element, which is a neighbour in the domain that it is asked for
pub record IsRoute (n : NetworkParts) (d : As) (route : Route) : Type 0 where
  pub row : PeerRow
  pub at : peer_row route.peer n.peers ≡ Some row
  pub own : row.at ≡ d
  pub down : row.down ≡ true
  pub class : row.class ≡ Neighbour route.next

-- Routes lead to such peers alone.
abbrev pub RoutesGoOut : Type 0
RoutesGoOut = (n : NetworkParts) (d : As) → AllByRecursion (IsRoute n d) (routes n d)

-- Each such peer has a route.
abbrev pub EachHasRoute : Type 0
EachHasRoute = (n : NetworkParts) (d b : As) (i : ℕ) (r : PeerRow) → peer_row i n.peers ≡ Some r → r.at ≡ d → r.down ≡ true → r.class ≡ Neighbour b → Contains (routes n d) (record { next = b; peer = i })

-- Where paths go on through no outside peer, there is no route.
abbrev pub NoRoutes : Type 0
NoRoutes = (n : NetworkParts) (d : As) → StaysInside n → routes n d ≡ []
