use Rattle.told_laws.proofs.Playing as playing
use Rattle.told_laws.proofs.records.records_are_played.Goals as goal

pub returns : goal.returns
returns c = playing.records_are_played
