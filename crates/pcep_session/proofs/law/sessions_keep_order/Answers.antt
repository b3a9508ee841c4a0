use Rattle.pcep_session.proofs.OrderLemmas.{keeps_order}
use Rattle.pcep_session.proofs.law.sessions_keep_order.Goals as goal

pub returns : goal.returns
returns c = keeps_order
