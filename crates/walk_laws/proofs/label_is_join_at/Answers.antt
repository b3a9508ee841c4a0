use Rattle.walk_laws.proofs.Joining.{label_joins_at}
use Rattle.walk_laws.proofs.label_is_join_at.Goals as goal

pub returns : goal.returns
returns c = label_joins_at
