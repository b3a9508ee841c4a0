-- Runs of the same accepted events are one, so what is told of a run and played again says what the run said.
use Rattle.std.specs.Prelude.{◌≡◌, true, List, [], ◌∷◌, ◌++◌}
use Rattle.plant_laws.specs.plant_model.Types.{NetworkParts}
use Rattle.plant_laws.specs.plant_model.declared.event.Event.{Event}
use Rattle.plant_laws.specs.plant_model.Wire.{Codec}
use Rattle.plant_laws.specs.plant_model.Laws.{IsNetwork}
use Rattle.plant_laws.specs.plant_model.Blind.{is_accepted}
use Rattle.plant_laws.specs.plant_model.Plant.{Entry, Plant, Run}
use Rattle.plant_laws.specs.plant_model.RealWire.{wire}
use Rattle.told_laws.specs.Saying.{SayTheSame}
use Rattle.told_laws.specs.Telling.{told}

-- the events of entries, the newest first
abbrev pub events_in : List Entry → List Event
events_in [] = []
events_in (e ∷ older) = e.event ∷ events_in older

-- each event was accepted
abbrev pub AreAccepted : List Entry → Type 0
AreAccepted [] = Unit {0}
AreAccepted (e ∷ older) = (is_accepted e.answer ≡ true) × AreAccepted older

pub record AreOne (es fs : List Entry) (s t : Plant) : Type 0 where
  pub entries : fs ≡ es
  pub state : t ≡ s

-- Two runs in which the same events were all accepted have the same answers, the same deeds and the same state.
abbrev pub RunsAreOne : Type 0
RunsAreOne =
    (c : Codec) (n : NetworkParts) → IsNetwork n → (es fs : List Entry) (s t : Plant) → Run c n es s → Run c n fs t →
    AreAccepted es → AreAccepted fs → events_in fs ≡ events_in es → AreOne es fs s t

-- The run `fs`, which ends in `t`, is what is told of the run `es`, which ends in `s`, event by event with its answer and its deeds. It
-- ends in the same state, and says the same.
pub record IsPlay (n : NetworkParts) (es fs : List Entry) (s t : Plant) : Type 0 where
  pub entries : fs ≡ told es
  pub state : t ≡ s
  pub says : SayTheSame wire n es fs

-- Where just the events that are told of a run are asked for anew, in order, and each is accepted, it is said what that run said.
abbrev pub RecordsArePlayed : Type 0
RecordsArePlayed =
    (n : NetworkParts) → IsNetwork n → (es fs : List Entry) (s t : Plant) → Run wire n es s → Run wire n fs t →
    AreAccepted fs → events_in fs ≡ events_in (told es) → IsPlay n es fs s t

-- at a moment of the run `es`
pub record IsPlayAtMoment (n : NetworkParts) (es fs : List Entry) (t : Plant) : Type 0 where
  pub later : List Entry
  pub moment : List Entry
  pub is : es ≡ later ++ moment
  pub state : Plant
  pub run : Run wire n moment state
  pub plays : IsPlay n moment fs state t

-- Where the first of these events alone are asked for, it is said what the run had said at some moment.
abbrev pub PartsArePlayed : Type 0
PartsArePlayed =
    (n : NetworkParts) → IsNetwork n → (es fs : List Entry) (s t : Plant) → Run wire n es s → Run wire n fs t →
    AreAccepted fs → (rest : List Event) → events_in (told es) ≡ rest ++ events_in fs → IsPlayAtMoment n es fs t
