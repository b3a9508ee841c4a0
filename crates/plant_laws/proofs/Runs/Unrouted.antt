-- What routes leave as it is: who is asked by a link, and, where paths go on through no outside peer, that each request for a domain
-- goes to its own element.
use Rattle.std.proofs.Common.{◌≡◌, ◌∙◌, cond, List, [], ◌∷◌, ◌++◌, map, Option, Some, None, ap, refl}
use Rattle.plant_model.specs.Types.{As, NetworkParts, ElementRow, Inner}
use Rattle.plant_text.specs.Settings.{row_of, deny_at}
use Rattle.plant_model.specs.declared.route.Route.{Route}
use Rattle.plant_model.specs.Routes.{routes, toward, StaysInside}
use Rattle.plant_model.specs.Element.{Way, way_to}
use Rattle.plant_model.specs.Settings.{place, place_from, outer_way}
use Rattle.request_table.specs.Pending.{same_peer}
use Rattle.plant_model.proofs.Outward.{no_routes}

pub place_routes : (n : NetworkParts) (d : As) → (place n d).routes ≡ routes n d
place_routes n d = go (row_of d n.elements)
  where
    go : (o : Option ElementRow) → (place_from d (deny_at d n.deny) (routes n d) o).routes ≡ routes n d
    go None = refl
    go (Some r) = refl

pub unrouted : (n : NetworkParts) → StaysInside n → (d b : As) → toward b (place n d).routes ≡ Inner b
unrouted n downs d b = ap (toward b) (place_routes n d ∙ no_routes n d downs)

-- the way along a link, with routes behind
pub way_inside : (b : As) (ws : List Way) (rs : List Route) → way_to (Inner b) (ws ++ map outer_way rs) ≡ way_to (Inner b) ws
way_inside b [] [] = refl
way_inside b [] (r ∷ rs) = way_inside b [] rs
way_inside b (w ∷ ws) rs = ap (λ (o : Option Way). cond (same_peer w.peer (Inner b)) (Some w) o) (way_inside b ws rs)
