use Rattle.run_laws.proofs.PeerLemmas.Reading as reading
use Rattle.run_laws.proofs.peers.handed_is_read.Goals as goal

pub returns : goal.returns
returns c = reading.handed_is_read
