use Rattle.run_laws.proofs.PeerLemmas.Answering as answering
use Rattle.run_laws.proofs.peers.answers_are_right.Goals as goal

pub returns : goal.returns
returns c = answering.answers_are_right
