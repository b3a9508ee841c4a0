use Rattle.plant_laws.proofs.Blind.OneStep as OneStep
use Rattle.plant_laws.proofs.steps_are_one.Goals as goal

pub returns : goal.returns
returns c = OneStep.steps_are_one
