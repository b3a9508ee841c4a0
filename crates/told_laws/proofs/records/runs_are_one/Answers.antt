use Rattle.told_laws.proofs.Playing as playing
use Rattle.told_laws.proofs.records.runs_are_one.Goals as goal

pub returns : goal.returns
returns c = playing.runs_are_one
