use Rattle.border_costs.proofs.Composing.{rows_compose, rows_end, rows_report}
use Rattle.border_costs.proofs.law.rows_compose.Goals as goal

pub returns-clause-border : goal.returns-clause-border
returns-clause-border c = rows_compose

pub returns-clause-last : goal.returns-clause-last
returns-clause-last c = rows_end

pub returns-clause-told : goal.returns-clause-told
returns-clause-told c = rows_report
