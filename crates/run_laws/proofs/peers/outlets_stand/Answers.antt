use Rattle.run_laws.proofs.PeerLemmas.OutletRuns as runs
use Rattle.run_laws.proofs.peers.outlets_stand.Goals as goal

pub returns : goal.returns
returns c = runs.outlets_stand
