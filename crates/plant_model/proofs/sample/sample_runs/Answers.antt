use Rattle.plant_model.proofs.Runs as Runs
use Rattle.plant_model.proofs.sample.sample_runs.Goals as goal

pub returns-clause-path : goal.returns-clause-path
returns-clause-path c = Runs.three_domains

pub returns-clause-broken : goal.returns-clause-broken
returns-clause-broken c = Runs.break_is_told

pub returns-clause-load : goal.returns-clause-load
returns-clause-load c = Runs.load_keeps_pin

pub returns-clause-keys : goal.returns-clause-keys
returns-clause-keys c = Runs.keys_are_guarded

pub returns-clause-ids : goal.returns-clause-ids
returns-clause-ids c = Runs.ids_tell_who_sent

pub returns-clause-outside : goal.returns-clause-outside
returns-clause-outside c = Runs.goes_outside

pub returns-clause-no_path : goal.returns-clause-no_path
returns-clause-no_path c = Runs.no_path_tells_clients

pub returns-clause-parent : goal.returns-clause-parent
returns-clause-parent c = Runs.parent_answers
