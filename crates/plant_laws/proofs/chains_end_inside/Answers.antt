use Rattle.plant_laws.proofs.Least.EndsInside as EndsInside
use Rattle.plant_laws.proofs.chains_end_inside.Goals as goal

pub returns : goal.returns
returns c = EndsInside.chains_end_inside
