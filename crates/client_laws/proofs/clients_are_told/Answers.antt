use Rattle.client_laws.proofs.Asking as asking
use Rattle.client_laws.proofs.clients_are_told.Goals as goal

pub returns : goal.returns
returns c = asking.clients_are_told
