use Rattle.std.proofs.Common.{◌≡◌, drop}
use Rattle.pce_common.specs.plant_model.Routes.{toward}
use Rattle.pce_element.proofs.looks.toward.Given as goal

abbrev pub invariant-loop-route : goal.invariant-loop-route
invariant-loop-route l = toward l.next (drop l.route-index l.routes) ≡ toward l.next l.routes
