use Rattle.path_search.proofs.Cutting.{cut_all}
use Rattle.path_search.proofs.law.cut_labels.Goals as goal

pub returns : goal.returns
returns c = cut_all
