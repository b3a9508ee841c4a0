use Rattle.plant_laws.specs.Served.{RequestsAreServedIn}
use Rattle.plant_laws.proofs.WrittenForm.EveryWritten.{of_written_net_ids}
use Rattle.plant_laws.proofs.Reasons.Served as Served
use Rattle.plant_laws.proofs.requests_are_served.Goals as goal

pub returns : goal.returns
returns c = of_written_net_ids RequestsAreServedIn Served.requests_are_served
