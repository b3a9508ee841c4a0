use Rattle.border_costs.proofs.OneAnswer.{one_answer}
use Rattle.border_costs.proofs.law.one_answer.Goals as goal

pub returns : goal.returns
returns c = one_answer
