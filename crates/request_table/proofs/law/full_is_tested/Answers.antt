use Rattle.request_table.proofs.FindLemmas.{full_law}
use Rattle.request_table.proofs.law.full_is_tested.Goals as goal

pub returns : goal.returns
returns g c = full_law g.row.T.Denot
