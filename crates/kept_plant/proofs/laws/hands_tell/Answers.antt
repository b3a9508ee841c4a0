use Rattle.kept_plant.proofs.Handing.{hands_tell}
use Rattle.kept_plant.proofs.laws.hands_tell.Goals as goal

pub returns : goal.returns
returns c = hands_tell
