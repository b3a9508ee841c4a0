use Rattle.plant_laws.proofs.LastingLemmas.JobsKept as JobsKept
use Rattle.plant_laws.proofs.lasting.jobs_are_kept.Goals as goal

pub returns : goal.returns
returns c = record { given = JobsKept.order_gives; elements = JobsKept.elements_keep_jobs; parents = JobsKept.parents_keep_jobs }
