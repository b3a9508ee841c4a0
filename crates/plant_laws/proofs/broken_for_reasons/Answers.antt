use Rattle.plant_laws.specs.Broken.{BrokenForReasonsIn}
use Rattle.plant_laws.proofs.WrittenForm.EveryWritten.{of_written_net_ids}
use Rattle.plant_laws.proofs.Reasons.Broken as Broken
use Rattle.plant_laws.proofs.Reasons.StaysInside.{none_go_out}
use Rattle.plant_laws.proofs.broken_for_reasons.Goals as goal

pub returns : goal.returns
returns c = record { reasons = of_written_net_ids BrokenForReasonsIn Broken.broken_for_reasons; inside = none_go_out }
