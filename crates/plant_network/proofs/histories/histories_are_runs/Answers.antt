use Rattle.plant_network.proofs.HistoryLemmas as HistoryLemmas
use Rattle.plant_network.proofs.histories.histories_are_runs.Goals as goal

pub returns : goal.returns
returns c = HistoryLemmas.histories_are_runs
