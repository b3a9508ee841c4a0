use Rattle.walk_laws.proofs.Capping.{segment_up}
use Rattle.walk_laws.proofs.segment_under_lower_cap.Goals as goal

pub returns : goal.returns
returns x g q seeds c d u a links lower within = segment_up c d g q seeds u a links lower within
