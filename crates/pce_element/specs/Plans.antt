-- A planned change as its holders see it.
use Rattle.std.specs.Prelude.{List, Option}
use Rattle.pce_common.specs.plant_model.declared.output.Output.{Output}
use Rattle.pce_common.specs.plant_model.Element.{Taken}
use Rattle.pce_element.specs.declared.change.Change.{Change}
use Rattle.pce_element.specs.Changes.{Fits, HasRoom, changed, solved_in}
use Rattle.pce_element.specs.Seen.{Seen}

-- the element that it is a change of, what is made of it and sent, and what was solved for it
pub record Planned (P : Type 0) (S : Type 0) (D : Type 0) : Type 0 where
  pub from : Seen P S
  pub taken : Taken P S
  pub solved : Option D

abbrev pub planned_of : {P : Type 0} {S : Type 0} {D : Type 0} → Seen P S → Change D S → List Output → Planned P S D
planned_of from change outputs = record {
  from = from;
  taken = record { element = changed from.current change from.losing.element; outputs = outputs };
  solved = solved_in change;
}

pub record MayBeMade {P : Type 0} {S : Type 0} {D : Type 0} (from : Seen P S) (change : Change D S) : Type 0 where
  pub fits : Fits from change
  pub room : HasRoom from change
