-- A step is determined: in a state of a run an event has one answer, one state after it and one list of deeds, or it is refused when
-- out of memory.
use Rattle.std.specs.Prelude.{◌≡◌, List}
use Rattle.plant_model.specs.Types.{NetworkParts}
use Rattle.plant_model.specs.declared.event.Event.{Event}
use Rattle.plant_model.specs.Wire.{Codec}
use Rattle.plant_model.specs.Laws.{IsNetwork}
use Rattle.plant_model.specs.Plant.{Plant, Happened, Entry, Run, Happens}

abbrev pub StepsAreOne : Type 0
StepsAreOne = (c : Codec) (n : NetworkParts) → IsNetwork n → (es : List Entry) (s : Plant) → Run c n es s → (e : Event) (one other : Happened) → Happens c n s e one → Happens c n s e other → one ≡ other
