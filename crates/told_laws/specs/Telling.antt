-- What is told of a run: the events that were accepted, but the drains that handed out nothing.
use Rattle.std.specs.Prelude.{◌&&◌, Bool, false, not, cond, List, [], ◌∷◌}
use Rattle.plant_laws.specs.plant_model.Types.{NetworkParts}
use Rattle.plant_laws.specs.plant_model.declared.event.Event.{Event}
use Rattle.plant_laws.specs.plant_model.declared.event.Event.TheVariants as event
use Rattle.plant_laws.specs.plant_model.Names.{is_empty}
use Rattle.plant_laws.specs.plant_model.Blind.{is_accepted}
use Rattle.plant_laws.specs.plant_model.Events.{Answered}
use Rattle.plant_laws.specs.plant_model.Plant.{Entry, Plant, Run}
use Rattle.plant_laws.specs.plant_model.RealWire.{wire}
use Rattle.run_laws.specs.Outlets.{handed_in}

-- a drain that handed out nothing
abbrev pub is_idle : Event → Answered → Bool
is_idle (event.Drain i holder) r = is_empty (handed_in r)
is_idle _ r = false

abbrev pub is_told : Event → Answered → Bool
is_told e r = is_accepted r && not (is_idle e r)

-- the entries that are told, the newest first
abbrev pub told : List Entry → List Entry
told [] = []
told (e ∷ older) = cond (is_told e.event e.answer) (e ∷ told older) (told older)

-- What is told of a run is a run, and it ends in the same state.
abbrev pub ToldIsRun : Type 0
ToldIsRun = (n : NetworkParts) (es : List Entry) (s : Plant) → Run wire n es s → Run wire n (told es) s
