use Rattle.plant_laws.specs.Certified.{SolvesCertifyIn}
use Rattle.plant_laws.proofs.WrittenForm.EveryWritten.{of_written_net}
use Rattle.plant_laws.proofs.Least.OfRun as OfRun
use Rattle.plant_laws.proofs.solves_certify.Goals as goal

pub returns : goal.returns
returns c = of_written_net SolvesCertifyIn OfRun.solves_certify
