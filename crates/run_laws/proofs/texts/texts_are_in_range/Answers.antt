use Rattle.run_laws.proofs.TextLemmas.RowRanges as RowRanges
use Rattle.run_laws.proofs.texts.texts_are_in_range.Goals as goal

pub returns : goal.returns
returns c = RowRanges.text_in_range
