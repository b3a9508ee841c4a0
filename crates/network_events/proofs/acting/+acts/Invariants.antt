use Rattle.std.proofs.Common.{length}
use Rattle.pcep_session.specs.Listed.{listed}
use Rattle.network_events.proofs.acting.+acts.Given as goal

abbrev pub decreases-acts : goal.decreases-acts
decreases-acts g l = length (listed l.actions)
