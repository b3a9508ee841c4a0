use Rattle.told_laws.proofs.Telling as telling
use Rattle.told_laws.proofs.records.told_is_a_run.Goals as goal

pub returns : goal.returns
returns c = telling.told_is_run
