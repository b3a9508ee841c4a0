use Rattle.run_laws.proofs.SettlingLemmas.WorkRuns as WorkRuns
use Rattle.run_laws.proofs.settling.new_networks_weigh.Goals as goal

pub returns : goal.returns
returns c = WorkRuns.new_networks_weigh
