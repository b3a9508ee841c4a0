use Rattle.walk_laws.proofs.Complete.{least_certified}
use Rattle.walk_laws.proofs.least_is_certified.Goals as goal

pub returns : goal.returns
returns c = least_certified
