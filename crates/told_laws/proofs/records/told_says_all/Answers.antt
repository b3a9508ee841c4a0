use Rattle.told_laws.proofs.Saying as saying
use Rattle.told_laws.proofs.records.told_says_all.Goals as goal

pub returns : goal.returns
returns c = saying.told_says_all
