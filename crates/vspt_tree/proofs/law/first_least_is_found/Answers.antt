use Rattle.vspt_tree.proofs.FirstLeast.{first_least_is}
use Rattle.vspt_tree.proofs.law.first_least_is_found.Goals as goal

pub returns : goal.returns
returns c = first_least_is
