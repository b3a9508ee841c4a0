use Rattle.std.proofs.Common.{◌≡◌, map, take}
use Rattle.plant_model.specs.Settings.{outer_way}
use Rattle.pce_common.proofs.ways.outer_rows.Given as goal

abbrev pub invariant-loop-route : goal.invariant-loop-route
invariant-loop-route l = l.rows.items ≡ map outer_way (take l.route-index l.routes)
