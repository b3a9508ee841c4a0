use Rattle.plant_model.proofs.RoutesApart as apart
use Rattle.plant_model.proofs.law.routes_are_apart.Goals as goal

pub returns-clause-differ : goal.returns-clause-differ
returns-clause-differ c = apart.routes_differ

pub returns-clause-leave : goal.returns-clause-leave
returns-clause-leave c = apart.routes_leave
