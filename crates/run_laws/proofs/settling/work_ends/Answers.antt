use Rattle.run_laws.proofs.SettlingLemmas.WorkRuns as WorkRuns
use Rattle.run_laws.proofs.settling.work_ends.Goals as goal

pub returns : goal.returns
returns c = record { less = WorkRuns.work_weighs_less; ends = WorkRuns.work_ends; from_start = WorkRuns.work_keeps_ids }
