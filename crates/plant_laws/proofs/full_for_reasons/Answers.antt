use Rattle.plant_laws.specs.Full.{FullForReasonsIn}
use Rattle.plant_laws.proofs.WrittenForm.EveryWritten.{of_written_net_ids}
use Rattle.plant_laws.proofs.Reasons.Full as Full
use Rattle.plant_laws.proofs.full_for_reasons.Goals as goal

pub returns : goal.returns
returns c = of_written_net_ids FullForReasonsIn Full.full_for_reasons
