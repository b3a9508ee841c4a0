use Rattle.plant_laws.specs.Replies.{LeastRepliesIn, NoneRepliesIn}
use Rattle.plant_laws.proofs.WrittenForm.EveryWritten.{of_written_net_ids}
use Rattle.plant_laws.proofs.Least.OfRun as OfRun
use Rattle.plant_laws.proofs.replies_are_least.Goals as goal

pub returns : goal.returns
returns c = record { paths = of_written_net_ids LeastRepliesIn OfRun.least_replies_are; none = of_written_net_ids NoneRepliesIn OfRun.none_replies_are }
