use Rattle.client_laws.proofs.Loadable as Loadable
use Rattle.client_laws.proofs.scripts.runs_are_loadable.Goals as goal

pub returns : goal.returns
returns c = Loadable.runs_are_loadable
