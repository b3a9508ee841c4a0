use Rattle.te_text.proofs.OneOrder.{one_topology}
use Rattle.te_deltas.proofs.law.built_once.Goals as goal

pub returns : goal.returns
returns c = one_topology
