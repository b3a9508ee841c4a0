use Rattle.request_table.proofs.FindLemmas.{open_law}
use Rattle.request_table.proofs.law.finds_after_open.Goals as goal

pub returns : goal.returns
returns g c = open_law g.row.T.Denot
