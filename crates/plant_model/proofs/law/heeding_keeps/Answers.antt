use Rattle.plant_model.proofs.Heeded as heeded
use Rattle.plant_model.proofs.law.heeding_keeps.Goals as goal

pub returns-clause-replies : goal.returns-clause-replies
returns-clause-replies c = heeded.heeding_keeps

pub returns-clause-joins : goal.returns-clause-joins
returns-clause-joins c = heeded.heeded_joins
