use Rattle.walk_laws.proofs.Composing.{composes}
use Rattle.walk_laws.proofs.join_composes.Goals as goal

pub returns : goal.returns
returns c = composes
