use Rattle.plant_laws.specs.Chains.{QuietIsAnsweredIn, QuietHasNonePendingIn}
use Rattle.plant_laws.proofs.WrittenForm.EveryWritten.{of_written_net_ids}
use Rattle.plant_laws.proofs.Settled.UnderWayLaw as UnderWayLaw
use Rattle.plant_laws.proofs.quiet_is_answered.Goals as goal

pub returns : goal.returns
returns c = record { outside = of_written_net_ids QuietIsAnsweredIn UnderWayLaw.quiet_is_answered; none = of_written_net_ids QuietHasNonePendingIn UnderWayLaw.quiet_has_none_pending }
