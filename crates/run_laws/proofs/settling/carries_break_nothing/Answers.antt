use Rattle.run_laws.proofs.SettlingLemmas.CalmEvents as CalmEvents
use Rattle.run_laws.proofs.settling.carries_break_nothing.Goals as goal

pub returns : goal.returns
returns c = CalmEvents.carries_break_nothing
