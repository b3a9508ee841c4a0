use Rattle.walk_laws.proofs.Segments.{segment_is_walk}
use Rattle.walk_laws.proofs.segment_is_walk.Goals as goal

pub returns : goal.returns
returns c = segment_is_walk
