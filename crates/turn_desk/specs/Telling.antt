-- What a desk was handed, against what was told at its lock.
use Rattle.std.specs.Prelude.{◌≡◌, List, Option, Some, None}
use Rattle.event_tape.specs.Hands.{AreWhole}
use Rattle.plant_lock.specs.Views.{LegalFrom}
use Rattle.kept_plant.specs.Handing.{HandTells, hands_in}
use Rattle.kept_plant.specs.Turns.{KeptAdmits, KeptAllows, kept_after, kept_of}
use Rattle.kept_plant.specs.declared.acts.KeptAct.{KeptAct}
use Rattle.kept_plant.specs.declared.acts.KeptAnswer.{KeptAnswer}
use Rattle.kept_plant.specs.declared.kept.KeptPlant.{KeptPlant}
use Rattle.turn_desk.specs.Seats.{Seated}

-- Where the tape was open at first and each of the hands begins where the one before ended, they are a first part of what was told.
abbrev pub TellsFrom : Option KeptPlant → List (KeptAct × KeptAnswer) → List (KeptAct × KeptAnswer) → Type 0
TellsFrom None seen own = Unit {0}
TellsFrom (Some k) seen own = k.tape.ended ≡ None → AreWhole k.tape.handed (hands_in own) → HandTells (kept_of k) seen (hands_in own)

-- where what the desk has seen is a history of its lock, as behind each of its turns
abbrev pub DeskTells : Seated → Type 0
DeskTells s = LegalFrom kept_of KeptAdmits KeptAllows kept_after s.start s.seen → TellsFrom s.start s.seen s.own
