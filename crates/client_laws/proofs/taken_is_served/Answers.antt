use Rattle.client_laws.proofs.Serving as serving
use Rattle.client_laws.proofs.taken_is_served.Goals as goal

pub returns : goal.returns
returns c = record { opens = serving.taken_is_open; served = serving.taken_is_served }
