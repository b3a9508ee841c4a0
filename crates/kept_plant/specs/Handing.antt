-- Hands that whoever writes a tape has had, of all hands of a history.
use Rattle.std.specs.Prelude.{◌≡◌, List, [], ◌∷◌, ◌++◌, map, Option, Some, None, Contains}
use Rattle.std.specs.List.{AllByRecursion, filter_map}
use Rattle.event_tape.specs.Hands.{AreWhole, told_of}
use Rattle.event_tape.specs.Tapes.{event_of}
use Rattle.event_tape.specs.declared.tape.Handed.{Handed as HandedOut}
use Rattle.event_tape.specs.declared.tape.TapeEnd.{TapeEnd}
use Rattle.plant_lock.specs.History.{replay}
use Rattle.plant_network.specs.plant_model.declared.event.Event.{Event}
use Rattle.kept_plant.specs.Histories.{EndsIn, KeptLegal, turns_of}
use Rattle.kept_plant.specs.Tellings.{tellings}
use Rattle.kept_plant.specs.Turns.{Kept, kept_after}
use Rattle.kept_plant.specs.declared.acts.KeptAct.{KeptAct}
use Rattle.kept_plant.specs.declared.acts.KeptAct.TheVariants.{Hand}
use Rattle.kept_plant.specs.declared.acts.KeptAnswer.{KeptAnswer}
use Rattle.kept_plant.specs.declared.acts.KeptAnswer.TheVariants.{Handed}

abbrev pub hand_of : KeptAct → KeptAnswer → Option HandedOut
hand_of (Hand empty) (Handed h) = Some h
hand_of a r = None

-- the hands of entries, in order
abbrev pub hands_in : List (KeptAct × KeptAnswer) → List HandedOut
hands_in es = filter_map (λ (e : KeptAct × KeptAnswer). hand_of e.0 e.1) es

-- each of these stands in the list
abbrev pub AreAmong : List HandedOut → List HandedOut → Type 0
AreAmong own hs = AllByRecursion (λ (h : HandedOut). Contains hs h) own

-- how the tape had ended, as the last of these hands says
abbrev pub end_told : List HandedOut → Option TapeEnd
end_told [] = None
end_told (h ∷ []) = h.ended
end_told (h ∷ g ∷ hs) = end_told (g ∷ hs)

-- What these hands handed out is a first part of what the tape held at first and what was told of the turns up to its end. It is all
-- of that where the last hand says that the tape had ended.
pub record HandTells (s : Kept) (es : List (KeptAct × KeptAnswer)) (own : List HandedOut) : Type 0 where
  pub before : List (KeptAct × KeptAnswer)
  pub later : List (KeptAct × KeptAnswer)
  pub is : es ≡ before ++ later
  pub rest : List Event
  pub told : map event_of s.tape.items ++ tellings (turns_of before) ≡ map event_of (told_of own) ++ rest
  pub ends : EndsIn (replay kept_after s es).tape.ended (replay kept_after s before).tape later
  pub all : (why : TapeEnd) → end_told own ≡ Some why → (rest ≡ []) × ((replay kept_after s es).tape.ended ≡ Some why)

-- hands that begin each where the one before ended, of those of a history from an open tape
abbrev pub HandsTell : Type 0
HandsTell = (s : Kept) (es : List (KeptAct × KeptAnswer)) (own : List HandedOut) → s.tape.ended ≡ None → KeptLegal s es → AreAmong own (hands_in es) → AreWhole s.tape.handed own → HandTells s es own
