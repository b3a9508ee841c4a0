use Rattle.kept_plant.proofs.Tells.{open_tapes}
use Rattle.kept_plant.proofs.laws.tapes_tell.Goals as goal

pub returns : goal.returns
returns c = open_tapes
