-- What the rules of settings say of routes: those of an element lead to different domains, and none of them is an element's.
use Rattle.std.specs.Prelude.{◌≡◌, ◌≢◌, false, All, AllPairs}
use Rattle.plant_model.specs.Types.{As, NetworkParts}
use Rattle.plant_text.specs.Settings.{is_element}
use Rattle.plant_model.specs.declared.route.Route.{Route}
use Rattle.plant_model.specs.Laws.{IsNetwork}
use Rattle.plant_model.specs.Routes.{routes}

abbrev pub RoutesDiffer : Type 0
RoutesDiffer = (n : NetworkParts) → IsNetwork n → (d : As) → AllPairs (λ (a b : Route). a.next ≢ b.next) (routes n d)

-- So a link of the element leads to none of them.
abbrev pub RoutesLeave : Type 0
RoutesLeave = (n : NetworkParts) → IsNetwork n → (d : As) → All (λ (r : Route). is_element n r.next ≡ false) (routes n d)
