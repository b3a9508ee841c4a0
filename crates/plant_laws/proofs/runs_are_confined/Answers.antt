use Rattle.plant_laws.proofs.Settled.Confined as Confined
use Rattle.plant_laws.proofs.runs_are_confined.Goals as goal

pub returns : goal.returns
returns c = Confined.runs_are_confined
