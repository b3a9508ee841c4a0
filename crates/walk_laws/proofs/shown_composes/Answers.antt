use Rattle.walk_laws.proofs.Segments.{shown_composes}
use Rattle.walk_laws.proofs.shown_composes.Goals as goal

pub returns : goal.returns
returns c = shown_composes
