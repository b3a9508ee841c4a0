-- What is told of the turns of a network, and what telling it makes of a tape.
use Rattle.std.specs.Prelude.{◌≡◌, ◌⊎◌, Bool, true, false, cond, not, ◌==◌, List, length, Option, Some, None, Ok}
use Rattle.std.specs.List.{filter_map}
use Rattle.event_tape.specs.Tapes.{Taped, ended_by, event_of, fits, kept_on}
use Rattle.event_tape.specs.declared.tape.TapeEnd.{TapeEnd}
use Rattle.event_tape.specs.declared.tape.TapeEnd.TheVariants.{Behind, NoMemory}
use Rattle.event_tape.specs.declared.told.Told.{Told}
use Rattle.plant_network.specs.plant_model.declared.event.Event.{Event}
use Rattle.plant_network.specs.plant_model.declared.outcome.Outcome.{Outcome}
use Rattle.plant_network.specs.plant_model.declared.outcome.Outcome.TheVariants.{Drained}
use Rattle.plant_network.specs.Turns.{solve_of}
use Rattle.plant_network.specs.declared.acts.Act.{Act}
use Rattle.plant_network.specs.declared.acts.Act.TheVariants.{Do, Finish}
use Rattle.plant_network.specs.declared.acts.Acted.{Acted}
use Rattle.plant_network.specs.declared.acts.Acted.TheVariants.{Did, Committed}
use Rattle.plant_network.specs.declared.acts.ActAnswer.{ActAnswer}

-- ---- what is told

-- the event of an act; to answer a solved job is the event of its solve
abbrev pub event_in : Act → Option Event
event_in (Do e) = Some e
event_in (Finish x) = Some (solve_of x)
event_in a = None

-- octets were asked for, and none waited
abbrev pub is_idle : Outcome → Bool
is_idle (Drained octets ended) = length octets == 0
is_idle o = false

-- it was accepted, and changed something
abbrev pub tells : Acted → Bool
tells (Did (Ok o)) = not (is_idle o)
tells (Committed (Ok o)) = true
tells r = false

-- what is told of a turn
abbrev pub told_event : Act → Acted → Option Event
told_event a r = cond (tells r) (event_in a) None

-- what is told of turns, the oldest first
abbrev pub tellings : List (Act × ActAnswer) → List Event
tellings turns = filter_map (λ (e : Act × ActAnswer). told_event e.0 e.1.acted) turns

-- ---- on a tape

-- it is kept, it does not fit, or memory lacks
abbrev pub IsToldOpen : Event → Taped → Taped → Type 0
IsToldOpen e old new =
    ((x : Told) × (event_of x ≡ e) × (fits old e ≡ true) × (new ≡ kept_on old x))
    ⊎ ((fits old e ≡ false) × (new ≡ ended_by Behind old))
    ⊎ (new ≡ ended_by NoMemory old)

abbrev pub IsToldTo : Option TapeEnd → Event → Taped → Taped → Type 0
IsToldTo (Some why) e old new = new ≡ old
IsToldTo None e old new = IsToldOpen e old new

-- Nothing is told, or this event to an open tape; a tape that has ended stays as it is.
abbrev pub Folds : Option Event → Taped → Taped → Type 0
Folds None old new = new ≡ old
Folds (Some e) old new = IsToldTo old.ended e old new
