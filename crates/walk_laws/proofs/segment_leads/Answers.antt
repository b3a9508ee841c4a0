use Rattle.walk_laws.proofs.Complete.{segment_leads}
use Rattle.walk_laws.proofs.segment_leads.Goals as goal

pub returns : goal.returns
returns c = segment_leads
