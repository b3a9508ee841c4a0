use Rattle.kept_plant.proofs.Tells.{ended_tapes}
use Rattle.kept_plant.proofs.laws.ended_tapes_stay.Goals as goal

pub returns : goal.returns
returns c = ended_tapes
