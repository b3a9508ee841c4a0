use Rattle.run_laws.proofs.SettlingLemmas.CalmEvents as CalmEvents
use Rattle.run_laws.proofs.settling.links_are_calm.Goals as goal

pub returns : goal.returns
returns c = CalmEvents.runs_are_calm
