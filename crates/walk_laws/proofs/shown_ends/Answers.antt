use Rattle.walk_laws.proofs.Segments.{shown_ends}
use Rattle.walk_laws.proofs.shown_ends.Goals as goal

pub returns : goal.returns
returns c = shown_ends
