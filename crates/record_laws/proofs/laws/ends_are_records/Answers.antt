use Rattle.record_laws.proofs.Leaving as leaving
use Rattle.record_laws.proofs.laws.ends_are_records.Goals as goal

pub returns : goal.returns
returns c = leaving.ends_are_records
