-- A script that is played: its events are those of a run of the model.
use Rattle.std.specs.Prelude.{◌≡◌, ◌<◌, ℕ, List, [], All}
use Rattle.plant_play.specs.plant_model.Types.{As, LineEvent, NetworkParts}
use Rattle.plant_text.specs.declared.line.LineEvent.TheVariants as line
use Rattle.plant_play.specs.plant_model.declared.event.Event.TheVariants.{Load}
use Rattle.plant_play.specs.plant_model.Events.{Answered}
use Rattle.plant_play.specs.plant_model.Plant.{Entry, IsGiven, Plant, Run}
use Rattle.plant_play.specs.plant_model.RealWire.{wire}
use Rattle.plant_play.specs.Playing.{Cue, IsNewNetwork, Plays, PlayedNetwork}
use Rattle.plant_play.specs.Scripts.{AllPlayed}
use Rattle.plant_play.specs.Turns.{AreGiven, Turn, entries_of}

-- the bytes that an event feeds are octets
abbrev pub FeedsOctets : LineEvent → Type 0
FeedsOctets (line.Feed peer bytes) = All (λ (b : ℕ). b < 256) bytes
FeedsOctets (line.Receive peer bytes) = All (λ (b : ℕ). b < 256) bytes
FeedsOctets e = Unit {0}

-- each element's current topology is one that may be loaded
abbrev pub AreLoadable : Plant → Type 0
AreLoadable s = (d : As) → IsGiven (Load d (s.current d).topology)

-- In every run they are.
abbrev pub RunsAreLoadable : Type 0
RunsAreLoadable = (n : NetworkParts) (entries : List Entry) (s : Plant) → Run wire n entries s → AreLoadable s

-- What the events of a line are given is what their types say.
abbrev pub LinesAreGiven : Type 0
LinesAreGiven =
    (number : ℕ) (old : PlayedNetwork) (e : LineEvent) (file : List ℕ) (answer : Answered) (turns : List Turn) (told : List ℕ) (end : Plant)
    → FeedsOctets e → AreLoadable old.state → Plays number old e file answer turns told end → AreGiven turns

-- A run goes on by the events of a line.
abbrev pub LinesGoOn : Type 0
LinesGoOn =
    (number : ℕ) (old : PlayedNetwork) (e : LineEvent) (file : List ℕ) (answer : Answered) (turns : List Turn) (told : List ℕ) (end : Plant)
    → Plays number old e file answer turns told end → AreGiven turns
    → (older : List Entry) → Run wire old.network older old.state → Run wire old.network (entries_of turns older) end

abbrev pub FeedOctets : List Cue → Type 0
FeedOctets cues = All (λ (cue : Cue). FeedsOctets cue.event) cues

-- A run goes on by the events of lines that are played one after the other.
abbrev pub ScriptsGoOn : Type 0
ScriptsGoOn =
    (old end : PlayedNetwork) (cues : List Cue) (turns : List Turn) (told : List ℕ) → FeedOctets cues → AllPlayed old cues turns told end
    → (older : List Entry) → Run wire old.network older old.state → Run wire old.network (entries_of turns older) end.state

-- Where the network was new, they are the whole run.
abbrev pub ScriptsAreRuns : Type 0
ScriptsAreRuns =
    (n : NetworkParts) (new end : PlayedNetwork) (cues : List Cue) (turns : List Turn) (told : List ℕ) → IsNewNetwork n new → FeedOctets cues
    → AllPlayed new cues turns told end → Run wire n (entries_of turns []) end.state

-- No line changes the settings.
abbrev pub ScriptsKeepSettings : Type 0
ScriptsKeepSettings = (old end : PlayedNetwork) (cues : List Cue) (turns : List Turn) (told : List ℕ) → AllPlayed old cues turns told end → end.network ≡ old.network
