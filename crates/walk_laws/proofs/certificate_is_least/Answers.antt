use Rattle.walk_laws.proofs.Reached.{certified}
use Rattle.walk_laws.proofs.certificate_is_least.Goals as goal

pub returns : goal.returns
returns c = certified
