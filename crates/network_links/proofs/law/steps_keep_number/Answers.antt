use Rattle.network_links.proofs.StepLemmas.{steps_keep_number}
use Rattle.network_links.proofs.law.steps_keep_number.Goals as goal

pub returns : goal.returns
returns c = steps_keep_number
