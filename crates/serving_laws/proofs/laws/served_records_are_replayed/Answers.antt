use Rattle.serving_laws.proofs.Writing as writing
use Rattle.serving_laws.proofs.laws.served_records_are_replayed.Goals as goal

pub returns : goal.returns
returns c = writing.served_records c.records_are_replayed.ensures
