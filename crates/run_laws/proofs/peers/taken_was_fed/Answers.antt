use Rattle.run_laws.proofs.PeerLemmas.InletRuns as runs
use Rattle.run_laws.proofs.peers.taken_was_fed.Goals as goal

pub returns : goal.returns
returns c = runs.taken_was_fed
