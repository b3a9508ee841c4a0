use Rattle.network_files.proofs.DrawLemmas.{none_drawn}
use Rattle.network_files.proofs.draws.Draws.new.Goals as goal

pub invariant_of-result : goal.invariant_of-result
invariant_of-result c = none_drawn
