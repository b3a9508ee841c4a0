use Rattle.walk_laws.proofs.Joining.{label_joins}
use Rattle.walk_laws.proofs.label_is_join.Goals as goal

pub returns : goal.returns
returns c = label_joins
