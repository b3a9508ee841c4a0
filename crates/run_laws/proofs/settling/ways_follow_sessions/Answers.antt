use Rattle.run_laws.proofs.SettlingLemmas.Following as Following
use Rattle.run_laws.proofs.settling.ways_follow_sessions.Goals as goal

pub returns : goal.returns
returns c = Following.ways_follow
