-- A solved job as contracts see it, by its fields.
use Rattle.std.specs.Prelude.{◌≡◌, ℕ, List}
use Rattle.std.specs.Borrow.{Bor}
use Rattle.std.specs.Option.{option_map}
use Rattle.pce_common.specs.plant_model.Types.{Hop}
use Rattle.pce_common.specs.plant_model.BorderGraph.{Found, SolvesBorder}
use Rattle.pce_parent.specs.Solution.{BorderSolution}
use Rattle.pce_parent.specs.declared.solved.Walk.{Walk}
use Rattle.pce_parent.specs.declared.solved.BorderSolved.TheInside.{Inside}

abbrev pub found_of : Walk → Found
found_of r = record { cost = r.cost; hops = r.hops }

-- what a caller is shown
abbrev pub shown_of : ℕ × Bor (List Hop) → Found
shown_of p = record { cost = p.0; hops = p.1.now }

abbrev pub solution_of : Inside → BorderSolution
solution_of a = record { job = a.job.value; answer = option_map found_of a.found }

pub record IsRight (a : Inside) : Type 0 where
  pub right : SolvesBorder a.job.value (option_map found_of a.found)
  pub same_number : a.number ≡ a.job.value.number
