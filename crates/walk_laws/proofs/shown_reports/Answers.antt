use Rattle.walk_laws.proofs.Segments.{shown_reports}
use Rattle.walk_laws.proofs.shown_reports.Goals as goal

pub returns : goal.returns
returns c = shown_reports
