use Rattle.walk_laws.proofs.Composing.{reports}
use Rattle.walk_laws.proofs.join_reports.Goals as goal

pub returns : goal.returns
returns c = reports
