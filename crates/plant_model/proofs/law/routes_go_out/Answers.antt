use Rattle.plant_model.proofs.Outward as outward
use Rattle.plant_model.proofs.law.routes_go_out.Goals as goal

pub returns-clause-peers : goal.returns-clause-peers
returns-clause-peers c = outward.routes_go_out

pub returns-clause-none : goal.returns-clause-none
returns-clause-none c = outward.no_routes

pub returns-clause-each : goal.returns-clause-each
returns-clause-each c = outward.each_has_route
