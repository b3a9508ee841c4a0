use Rattle.run_laws.proofs.TextLemmas.ChangeRanges as ChangeRanges
use Rattle.run_laws.proofs.texts.changes_keep_range.Goals as goal

pub returns : goal.returns
returns c = ChangeRanges.changes_keep_range
