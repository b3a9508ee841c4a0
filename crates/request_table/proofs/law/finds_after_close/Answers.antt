use Rattle.request_table.proofs.FindLemmas.{close_law}
use Rattle.request_table.proofs.law.finds_after_close.Goals as goal

pub returns : goal.returns
returns g c = close_law g.row.T.Denot
