-- The line `finish` of a script leaves a network at rest.
use Rattle.std.specs.Prelude.{◌≡◌, ℕ, List, All, Option}
use Rattle.dom_edge.specs.Stores.{Files}
use Rattle.plant_text.specs.declared.line.LineEvent.TheVariants as line
use Rattle.plant_play.specs.plant_model.Types.{LineEvent, NetworkParts}
use Rattle.plant_play.specs.plant_model.Events.{Answered}
use Rattle.plant_play.specs.plant_model.Laws.{IsNetwork}
use Rattle.plant_play.specs.plant_model.Plant.{Plant}
use Rattle.run_laws.specs.plant_laws.Chains.{HasEmptyInbox, IsQuiet}
use Rattle.run_laws.specs.plant_laws.Resting.{IsAtRest}
use Rattle.plant_play.specs.Playing.{Cue, IsNewNetwork, PlaysLine, PlayedNetwork}
use Rattle.plant_play.specs.Scripts.{AllPlayed}
use Rattle.plant_play.specs.Turns.{Turn}
use Rattle.plant_client.specs.declared.question.Question.{Question}
use Rattle.plant_client.specs.Asking.{Asks}

-- all that was fed was taken
abbrev pub AreTaken : Plant → Type 0
AreTaken s = (i : ℕ) → HasEmptyInbox (s.accesses i).connection

-- it is no line `receive`, which takes nothing of what it feeds
abbrev pub IsNoReceive : LineEvent → Type 0
IsNoReceive (line.Receive peer bytes) = ⊥
IsNoReceive e = Unit {0}

abbrev pub AreNoReceives : List Cue → Type 0
AreNoReceives cues = All (λ (c : Cue). IsNoReceive c.event) cues

-- Between the lines of a script without `receive` all that was fed was taken.
abbrev pub LinesTakeAll : Type 0
LinesTakeAll = (n : NetworkParts) (new end : PlayedNetwork) (cues : List Cue) (turns : List Turn) (told : List ℕ) → IsNewNetwork n new → AreNoReceives cues → AllPlayed new cues turns told end → AreTaken end.state

-- Where all that was fed was taken, a line `finish` leaves the network at rest.
abbrev pub FinishedIsAtRest : Type 0
FinishedIsAtRest =
    (n : NetworkParts) (new mid end : PlayedNetwork) (cues : List Cue) (turns last : List Turn) (told more : List ℕ) (c : Cue) (answer : Answered) → IsNewNetwork n new → AllPlayed new cues turns told mid
    → AreTaken mid.state → c.event ≡ line.Finish → PlaysLine mid c answer last more end → IsAtRest n end.state

-- So it is at the end of the lines of a client that asks once, before what waits for it is handed out.
abbrev pub AskedIsAtRest : Type 0
AskedIsAtRest = (files : Option Files) (n : NetworkParts) (client : ℕ) (question : Question) (received : List ℕ) → (a : Asks files n client question received) → IsAtRest n a.asked.state

-- And where the settings are those of a network, it is quiet: nothing stands elsewhere either.
abbrev pub AskedIsQuiet : Type 0
AskedIsQuiet =
    (files : Option Files) (n : NetworkParts) (client : ℕ) (question : Question) (received : List ℕ) → IsNetwork n → (a : Asks files n client question received) → IsQuiet a.asked.state
