-- A day of a network under a tape, and what is had of it.
use Rattle.std.specs.Prelude.{◌≡◌, ◌<◌, List, [], ◌∷◌, ◌++◌, length, map, None}
use Rattle.std.specs.List.{AllByRecursion}
use Rattle.plant_text.specs.declared.settings.NetworkParts.{NetworkParts}
use Rattle.event_tape.specs.Hands.{AreWhole, told_of}
use Rattle.event_tape.specs.Tapes.{event_of}
use Rattle.event_tape.specs.declared.tape.Handed.{Handed}
use Rattle.event_tape.specs.declared.told.Told.{Told}
use Rattle.event_tape.specs.declared.told.Told.TheVariants.{Receive}
use Rattle.event_lines.specs.EventLines.{IsInRange, IsOf}
use Rattle.plant_network.specs.Histories.{AreGiven}
use Rattle.plant_network.specs.plant_model.declared.event.Event.{Event}
use Rattle.plant_network.specs.plant_model.Plant.{Entry, Run}
use Rattle.plant_network.specs.plant_model.RealWire.{wire}
use Rattle.told_laws.specs.Telling.{told}
use Rattle.kept_plant.specs.Handing.{AreAmong, hands_in}
use Rattle.kept_plant.specs.Histories.{KeptLegal, turns_of}
use Rattle.kept_plant.specs.Turns.{Kept}
use Rattle.kept_plant.specs.declared.acts.KeptAct.{KeptAct}
use Rattle.kept_plant.specs.declared.acts.KeptAnswer.{KeptAnswer}

-- the events of entries, the oldest first; entries have the newest first
abbrev pub events_by : List Entry → List Event
events_by [] = []
events_by (e ∷ older) = events_by older ++ e.event ∷ []

-- A network and its tape took these turns, in this order, behind an older run of these settings, of which the tape held all that is
-- told. What is given with each event is what its type says.
pub record IsDay (n : NetworkParts) (older : List Entry) (s : Kept) (es : List (KeptAct × KeptAnswer)) : Type 0 where
  pub network : s.network.network ≡ n
  pub run : Run wire n older s.network.state
  pub held : map event_of s.tape.items ≡ events_by (told older)
  pub unended : s.tape.ended ≡ None
  pub legal : KeptLegal s es
  pub given : AreGiven (turns_of es)

-- what who writes it down was handed of it: hands of its tape, each of which begins where the one before ended
abbrev pub AreHandsOf : Kept → List (KeptAct × KeptAnswer) → List Handed → Type 0
AreHandsOf s es own = AreAmong own (hands_in es) × AreWhole s.tape.handed own

-- ---- what their lines say

-- a line has octets to say
abbrev pub HasOctets : Told → Type 0
HasOctets (Receive p octets) = 0 < length octets
HasOctets e = Unit {0}

-- a line can say it
abbrev pub IsSayable : Told → Type 0
IsSayable e = IsInRange e × HasOctets e

-- What was handed out, where lines can say it, are events of the network: their peers are those of its settings.
abbrev pub HandsAreSaid : Type 0
HandsAreSaid =
    (n : NetworkParts) (older : List Entry) (s : Kept) (es : List (KeptAct × KeptAnswer)) → IsDay n older s es → (own : List Handed) → AreHandsOf s es own →
    AllByRecursion (λ (e : Told). IsSayable e → IsOf n e) (told_of own)
