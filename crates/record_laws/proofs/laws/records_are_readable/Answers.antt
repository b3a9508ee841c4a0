use Rattle.record_laws.proofs.Replaying as replaying
use Rattle.record_laws.proofs.laws.records_are_readable.Goals as goal

pub returns : goal.returns
returns c = replaying.records_are_readable c.lines_say_events.ensures
