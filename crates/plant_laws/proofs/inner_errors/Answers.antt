use Rattle.plant_laws.specs.Errors.{InnerErrorsIn}
use Rattle.plant_laws.proofs.WrittenForm.EveryWritten.{of_written_net_ids}
use Rattle.plant_laws.proofs.Reasons.Errors as Errors
use Rattle.plant_laws.proofs.inner_errors.Goals as goal

pub returns : goal.returns
returns c = of_written_net_ids InnerErrorsIn Errors.inner_errors
