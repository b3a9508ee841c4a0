use Rattle.serving_laws.proofs.Opening as opening
use Rattle.serving_laws.proofs.laws.servers_have_days.Goals as goal

pub returns : goal.returns
returns c = opening.servers_have_days
