use Rattle.walk_laws.proofs.Splitting.{split}
use Rattle.walk_laws.proofs.walks_split.Goals as goal

pub returns : goal.returns
returns c = split
