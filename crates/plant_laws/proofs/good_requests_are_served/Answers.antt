use Rattle.plant_laws.specs.Good.{GoodRequestsAreServedIn}
use Rattle.plant_laws.proofs.WrittenForm.EveryWritten.{of_written_net_ids}
use Rattle.plant_laws.proofs.Reasons.Good as Good
use Rattle.plant_laws.proofs.good_requests_are_served.Goals as goal

pub returns : goal.returns
returns c = of_written_net_ids GoodRequestsAreServedIn Good.good_requests_are_served
