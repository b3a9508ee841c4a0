use Rattle.client_laws.proofs.Loadable as Loadable
use Rattle.client_laws.proofs.Onward as Onward
use Rattle.client_laws.proofs.scripts.scripts_are_runs.Goals as goal

pub returns : goal.returns
returns c = record {
  go_on = Onward.scripts_go_on Loadable.runs_are_loadable;
  from_start = Onward.scripts_are_runs Loadable.runs_are_loadable;
  settings = Onward.settings_stay;
}
