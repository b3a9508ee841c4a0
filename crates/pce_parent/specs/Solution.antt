-- Solved jobs of a parent.
use Rattle.std.specs.Prelude.{Option}
use Rattle.te_links.specs.Rows.{IsMetric}
use Rattle.pce_common.specs.plant_model.Types.{ParentLink}
use Rattle.pce_common.specs.plant_model.declared.upper.BorderJob.{BorderJob}
use Rattle.pce_common.specs.plant_model.BorderGraph.{Found}

pub record BorderSolution : Type 0 where
  pub job : BorderJob
  pub answer : Option Found

-- the metrics of a link are those of a topology's
pub record IsWeighed (l : ParentLink) : Type 0 where
  pub igp : IsMetric l.link.igp
  pub te : IsMetric l.link.te
