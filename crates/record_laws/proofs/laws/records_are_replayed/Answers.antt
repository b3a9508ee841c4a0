use Rattle.record_laws.proofs.Replaying as replaying
use Rattle.record_laws.proofs.laws.records_are_replayed.Goals as goal

pub returns : goal.returns
returns c = replaying.records_are_replayed c.lines_say_events.ensures
