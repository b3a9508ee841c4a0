use Rattle.pce_common.specs.plant_model.Parent.{all_waits}
use Rattle.pce_parent.proofs.Sends.{SentSoFar}
use Rattle.pce_parent.proofs.sending.send_all.Given as goal

abbrev pub invariant-loop-errand : goal.invariant-loop-errand
invariant-loop-errand l = SentSoFar l.wanted (all_waits l.requests.kept.rows) l.errands l.ways l.errand-index l.sending
