use Rattle.plant_laws.specs.Headline.{LeastAnswersIn, NoneAnswersIn}
use Rattle.plant_laws.proofs.WrittenForm.EveryWritten.{of_written_net_ids}
use Rattle.plant_laws.proofs.Least.OfRun as OfRun
use Rattle.plant_laws.proofs.answers_are_least.Goals as goal

pub returns : goal.returns
returns c = record { paths = of_written_net_ids LeastAnswersIn OfRun.least_answers_are; none = of_written_net_ids NoneAnswersIn OfRun.none_answers_are }
