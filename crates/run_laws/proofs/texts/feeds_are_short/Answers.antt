use Rattle.run_laws.proofs.TextLemmas.FedLengths as FedLengths
use Rattle.run_laws.proofs.texts.feeds_are_short.Goals as goal

pub returns : goal.returns
returns c = FedLengths.feeds_short
