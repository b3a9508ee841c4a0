use Rattle.plant_laws.proofs.Runs.Readings as Readings
use Rattle.plant_laws.proofs.requests_are_read.Goals as goal

pub returns : goal.returns
returns c = Readings.requests_are_read
