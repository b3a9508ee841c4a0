use Rattle.run_laws.proofs.PinLemmas.HistoryLemmas as histories
use Rattle.run_laws.proofs.pins.histories_know_pins.Goals as goal

pub returns-clause-know : goal.returns-clause-know
returns-clause-know c = histories.histories_know_pins

pub returns-clause-stays : goal.returns-clause-stays
returns-clause-stays c = histories.known_stays
