use Rattle.walk_laws.proofs.Segments.{one_segment}
use Rattle.walk_laws.proofs.one_segment.Goals as goal

pub returns : goal.returns
returns c = one_segment
