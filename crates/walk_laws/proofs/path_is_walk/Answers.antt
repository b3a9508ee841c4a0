use Rattle.walk_laws.proofs.Complete.{path_walks}
use Rattle.walk_laws.proofs.path_is_walk.Goals as goal

pub returns : goal.returns
returns c = path_walks
