-- A plan as contracts see it, by its fields.
use Rattle.pce_parent.specs.Changes.{Fits, HasRoom, changed, solved_in}
use Rattle.pce_parent.specs.Plans.{Planned}
use Rattle.pce_parent.specs.declared.plan.BorderPlan.TheInside.{Inside}

abbrev pub planned_of : Inside → Planned
planned_of a = record {
  from = a.from.value;
  given = record { parent = changed a.change a.from.value.losing.parent; outputs = a.outputs };
  solved = solved_in a.change;
}

pub record MayBeMade (a : Inside) : Type 0 where
  pub fits : Fits a.from.value a.change
  pub room : HasRoom a.from.value a.change
