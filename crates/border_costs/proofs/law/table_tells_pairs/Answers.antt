use Rattle.border_costs.proofs.TablePairs.{table_tells_pairs}
use Rattle.border_costs.proofs.law.table_tells_pairs.Goals as goal

pub returns : goal.returns
returns c = table_tells_pairs
