use Rattle.path_keys.proofs.RunLemmas.{adds_one}
use Rattle.path_keys.proofs.law.issue_adds_one.Goals as goal

pub returns : goal.returns
returns g c = adds_one g.row.S.Denot
