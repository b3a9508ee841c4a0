use Rattle.walk_laws.proofs.Composing.{ends}
use Rattle.walk_laws.proofs.join_ends.Goals as goal

pub returns : goal.returns
returns c = ends
