use Rattle.client_laws.proofs.DisclosedRuns as DisclosedRuns
use Rattle.client_laws.proofs.scripts.runs_disclose.Goals as goal

pub returns : goal.returns
returns c = DisclosedRuns.runs_disclose
