use Rattle.plant_laws.proofs.WrittenForm.RequestsWritten as RequestsWritten
use Rattle.plant_laws.proofs.requests_are_written.Goals as goal

pub returns : goal.returns
returns c = RequestsWritten.requests_are_written
