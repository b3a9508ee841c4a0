-- A planned change as its holders see it.
use Rattle.std.specs.Prelude.{Option}
use Rattle.pce_common.specs.plant_model.Parent.{ParentTaken}
use Rattle.pce_parent.specs.Seen.{Seen}
use Rattle.pce_parent.specs.Solution.{BorderSolution}

-- the parent that it is a change of, what is made of it and sent, and what was solved for it
pub record Planned : Type 0 where
  pub from : Seen
  pub given : ParentTaken
  pub solved : Option BorderSolution
