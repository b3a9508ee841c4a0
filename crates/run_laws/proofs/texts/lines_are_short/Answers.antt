use Rattle.run_laws.proofs.TextLemmas.Lengths as Lengths
use Rattle.run_laws.proofs.texts.lines_are_short.Goals as goal

pub returns : goal.returns
returns c = Lengths.told_lines_short
