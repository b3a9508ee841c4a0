use Rattle.run_laws.proofs.PeerLemmas.OutletRuns as runs
use Rattle.run_laws.proofs.peers.drains_hand_out_all.Goals as goal

pub returns : goal.returns
returns c = runs.drains_hand_out_all
