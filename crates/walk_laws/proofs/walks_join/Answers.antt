use Rattle.walk_laws.proofs.Splitting.{join, joined_cost}
use Rattle.walk_laws.proofs.walks_join.Goals as goal

pub returns : goal.returns
returns c = λ g q u v w ls ms first second. (join g q u v w ls ms first second, joined_cost q ls ms)
