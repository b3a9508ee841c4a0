use Rattle.run_laws.proofs.PinLemmas.HistoryLemmas as histories
use Rattle.run_laws.proofs.pins.pins_are_one.Goals as goal

pub returns : goal.returns
returns c = histories.pins_are_one
