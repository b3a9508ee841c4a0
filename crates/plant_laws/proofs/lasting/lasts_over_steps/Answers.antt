use Rattle.plant_laws.specs.Onward.{jobs_still, jobs_on}
use Rattle.plant_laws.proofs.lasting.lasts_over_steps.Goals as goal

pub returns : goal.returns
returns c = record { still = jobs_still; on = jobs_on }
