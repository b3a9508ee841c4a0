use Rattle.client_laws.proofs.Exchanging as exchanging
use Rattle.client_laws.proofs.many_are_received.Goals as goal

pub returns : goal.returns
returns c = exchanging.many_are_received
