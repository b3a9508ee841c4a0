use Rattle.client_laws.proofs.Asked as asked
use Rattle.client_laws.proofs.one_is_asked.Goals as goal

pub returns : goal.returns
returns c = asked.one_is_asked
