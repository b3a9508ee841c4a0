use Rattle.client_laws.proofs.Ended as ended
use Rattle.client_laws.proofs.answer_is_told.Goals as goal

pub returns : goal.returns
returns c = ended.answer_is_told
