use Rattle.plant_laws.proofs.Settled.Resting as Resting
use Rattle.plant_laws.proofs.rest_is_quiet.Goals as goal

pub returns : goal.returns
returns c = Resting.rest_is_quiet
