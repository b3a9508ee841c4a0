-- What the settings say of an element and of the parent: its place, and the peers to which it sends requests.
use Rattle.std.specs.Prelude.{cond, List, [], ◌∷◌, ◌++◌, map, Option, Some, None, false}
use Rattle.plant_model.specs.Types.{As, Deny, NetworkParts, ElementRow, Outside, Inner}
use Rattle.dom_base.specs.declared.addr.Addr.TheVariants.{V4}
use Rattle.plant_text.specs.Names.{same_as}
use Rattle.plant_text.specs.Settings.{row_of, deny_at, children, Adjacency, adjacencies}
use Rattle.plant_model.specs.declared.route.Route.{Route}
use Rattle.plant_model.specs.Element.{Way, ElementSettings}
use Rattle.plant_model.specs.Parent.{Family}
use Rattle.plant_model.specs.Routes.{routes}

-- the settings of an element; a domain without one is never asked
abbrev pub place_from : As → List Deny → List Route → Option ElementRow → ElementSettings
place_from d deny routes None = record { own = d; id = V4 0; parent = false; deny = deny; routes = routes }
place_from d deny routes (Some r) = record { own = d; id = r.id; parent = r.parent; deny = deny; routes = routes }

abbrev pub place : NetworkParts → As → ElementSettings
place n d = place_from d (deny_at d n.deny) (routes n d) (row_of d n.elements)

abbrev pub family : NetworkParts → Family
family n = record { children = children n; links = n.parent_links }

-- the peers at the other ends of links, to which an element, or the parent, sends requests
abbrev pub way : As → Way
way b = record { peer = Inner b; up = false; last_id = 0 }

abbrev pub ways_along : As → List Adjacency → List Way
ways_along d [] = []
ways_along d (x ∷ xs) = cond (same_as x.lower d) (way x.upper ∷ ways_along d xs) (cond (same_as x.upper d) (way x.lower ∷ ways_along d xs) (ways_along d xs))

abbrev pub inner_ways : NetworkParts → As → List Way
inner_ways n d = ways_along d (adjacencies n)

-- an element sends requests by its routes as well
abbrev pub outer_way : Route → Way
outer_way r = record { peer = Outside r.peer; up = false; last_id = 0 }

abbrev pub ways : NetworkParts → As → List Way
ways n d = inner_ways n d ++ map outer_way (routes n d)
