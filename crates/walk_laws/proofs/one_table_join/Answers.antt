use Rattle.walk_laws.proofs.OneTable.{one_table_join, one_table_end}
use Rattle.walk_laws.proofs.one_table_join.Goals as goal

pub returns-clause-join : goal.returns-clause-join
returns-clause-join c = one_table_join

pub returns-clause-last : goal.returns-clause-last
returns-clause-last c = one_table_end
