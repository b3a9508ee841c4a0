-- The lines of a script, played on a network one after the other, and why a script stops before its end.
use Rattle.std.specs.Prelude.{◌≡◌, ◌⊎◌, ◌<◌, ◌≤◌, ℕ, List, [], ◌∷◌, ◌++◌, length, Option, Some, None}
use Rattle.std.specs.Io.KnownBytes.{Appends, Keeps}
use Rattle.dom_edge.specs.Causes.{Rose}
use Rattle.dom_edge.specs.Stores.{Files}
use Rattle.dom_edge.specs.Whole.{AppendsSome}
use Rattle.line_text.specs.Lines.{NumberedLine, told_lines}
use Rattle.plant_network.specs.plant_model.Types.{LineEvent, NetworkParts}
use Rattle.plant_text.specs.Lines.{line_in}
use Rattle.plant_network.specs.plant_model.Events.{Answered}
use Rattle.plant_play.specs.Playing.{Cue, IsNewNetwork, PlaysLine, PlayedNetwork}
use Rattle.plant_play.specs.Scripts.{AllPlayed}
use Rattle.plant_play.specs.Turns.{Turn}
use Rattle.transcript.specs.declared.stop.Stop.{Stop}
use Rattle.transcript.specs.declared.stop.Stop.TheVariants as stop
use Rattle.transcript.specs.Stops.{input_name, line_most}
use Rattle.plant_play.specs.Cues.{HasText, IsFileStop, file_name}

-- ---- lines that are played

-- the cue that a line gives
pub record IsCue (files : Option Files) (n : NetworkParts) (l : NumberedLine) (c : Cue) : Type 0 where
  pub within : length l.text ≤ line_most
  pub number : c.number ≡ l.number
  pub says : line_in n l.text ≡ Some (Some c.event)
  pub has : HasText files (file_name c.event) c.file

-- line by line
abbrev pub AreCues : Option Files → NetworkParts → List NumberedLine → List Cue → Type 0
AreCues files n [] [] = Unit {0}
AreCues files n [] (c ∷ cs) = ⊥
AreCues files n (l ∷ ls) [] = ⊥
AreCues files n (l ∷ ls) (c ∷ cs) = IsCue files n l c × AreCues files n ls cs

-- The lines are played one after the other on a network of these settings that has just been made.
pub record Playing (files : Option Files) (n : NetworkParts) (lines : List NumberedLine) (turns : List Turn) (told : List ℕ) (end : PlayedNetwork) : Type 0 where
  pub cues : List Cue
  pub are_cues : AreCues files n lines cues
  pub start : PlayedNetwork
  pub new : IsNewNetwork n start
  pub played : AllPlayed start cues turns told end

-- ---- why a script stops

-- the file that a line names stops it
pub record StopsAtFile (files : Option Files) (n : NetworkParts) (l : NumberedLine) (old new : PlayedNetwork) (counts : ℕ × ℕ) (failed_at : List ℕ) (why : Stop) : Type 0 where
  pub event : LineEvent
  pub says : line_in n l.text ≡ Some (Some event)
  pub name : List ℕ
  pub named : file_name event ≡ Some name
  pub stops : IsFileStop files name event old new counts failed_at why

-- Why a line stops the script: it is too long or outside the form, or the file that it names stops it.
abbrev pub IsLineStop : Option Files → NetworkParts → NumberedLine → PlayedNetwork → PlayedNetwork → ℕ × ℕ → List ℕ → Stop → Type 0
IsLineStop files n l old new counts failed_at (stop.BadLine number) = (number ≡ l.number) × (line_in n l.text ≡ None)
IsLineStop files n l old new counts failed_at (stop.TooLarge name) =
    ((name ≡ input_name) × (line_most < length l.text)) ⊎ StopsAtFile files n l old new counts failed_at (stop.TooLarge name)
IsLineStop files n l old new counts failed_at why = StopsAtFile files n l old new counts failed_at why

-- What a script met: the files where they are known; what was written before it and after; how often the store and the output had
-- failed before and after; and the name at which the store last failed.
pub record Around : Type 0 where
  pub files : Option Files
  pub before : Option (List ℕ)
  pub after : Option (List ℕ)
  pub store_faults : ℕ × ℕ
  pub output_faults : ℕ × ℕ
  pub failed_at : List ℕ

-- the same from its parts
abbrev pub around : Option Files → Option (List ℕ) × Option (List ℕ) → ℕ × ℕ → ℕ × ℕ → List ℕ → Around
around files written store_faults output_faults failed_at =
    record { files = files; before = written.0; after = written.1; store_faults = store_faults; output_faults = output_faults; failed_at = failed_at }

-- The lines of a script before the others are played, and their transcript is written so.
pub record Reached (files : Option Files) (n : NetworkParts) (script : List ℕ) (Wrote : List ℕ → Type 0) (others : List NumberedLine) (end : PlayedNetwork) : Type 0 where
  pub done : List NumberedLine
  pub parts : told_lines script ≡ done ++ others
  pub turns : List Turn
  pub told : List ℕ
  pub playing : Playing files n done turns told end
  pub wrote : Wrote told

-- the whole transcript is written
abbrev pub WroteAll : Around → List ℕ → Type 0
WroteAll a told = Appends a.before a.after told

-- a first part of the transcript is written
abbrev pub WroteSome : Around → List ℕ → Type 0
WroteSome a told = AppendsSome a.before a.after told

-- all lines are played, and their whole transcript is written
abbrev pub IsWhole : Around → NetworkParts → List ℕ → Type 0
IsWhole a n script = (end : PlayedNetwork) × Reached a.files n script (WroteAll a) [] end

-- some first lines are played, and a first part of their transcript is written
abbrev pub IsCut : Around → NetworkParts → List ℕ → Type 0
IsCut a n script = (others : List NumberedLine) × ((end : PlayedNetwork) × Reached a.files n script (WroteSome a) others end)

-- The lines before one are played, their whole transcript is written, and that line is why the script stops.
pub record StopsAt (a : Around) (n : NetworkParts) (script : List ℕ) (why : Stop) : Type 0 where
  pub line : NumberedLine
  pub others : List NumberedLine
  pub end : PlayedNetwork
  pub reached : Reached a.files n script (WroteAll a) (line ∷ others) end
  pub new : PlayedNetwork
  pub stops : IsLineStop a.files n line end new a.store_faults a.failed_at why

-- Why a script stops before its end; "out of memory" says nothing.
abbrev pub ScriptStops : Around → NetworkParts → List ℕ → Stop → Type 0
ScriptStops a n script stop.WriteFault = Rose a.output_faults.0 a.output_faults.1 × IsCut a n script
ScriptStops a n script stop.NoMemory = IsCut a n script
ScriptStops a n script why = StopsAt a n script why

-- ---- one line

-- the event of a line that is not too long
pub record HasEvent (n : NetworkParts) (l : NumberedLine) (e : LineEvent) : Type 0 where
  pub within : length l.text ≤ line_most
  pub says : line_in n l.text ≡ Some (Some e)

-- why a line has none
abbrev pub IsNoEvent : NetworkParts → NumberedLine → Stop → Type 0
IsNoEvent n l (stop.BadLine number) = (number ≡ l.number) × (line_in n l.text ≡ None)
IsNoEvent n l (stop.TooLarge name) = (name ≡ input_name) × (line_most < length l.text)
IsNoEvent n l stop.NoMemory = Unit {0}
IsNoEvent n l why = ⊥

-- The line is played, and its transcript is written so.
pub record LinePlays (files : Option Files) (n : NetworkParts) (l : NumberedLine) (old new : PlayedNetwork) (Wrote : List ℕ → Type 0) : Type 0 where
  pub cue : Cue
  pub is_cue : IsCue files n l cue
  pub answer : Answered
  pub turns : List Turn
  pub told : List ℕ
  pub plays : PlaysLine old cue answer turns told new
  pub wrote : Wrote told

-- Why a line stops the script. Nothing is written then, except where the output failed.
abbrev pub LineStops : Around → NetworkParts → NumberedLine → PlayedNetwork → PlayedNetwork → Stop → Type 0
LineStops a n l old new stop.WriteFault = Rose a.output_faults.0 a.output_faults.1 × LinePlays a.files n l old new (WroteSome a)
LineStops a n l old new stop.NoMemory = Keeps a.before a.after
LineStops a n l old new why = Keeps a.before a.after × IsLineStop a.files n l old new a.store_faults a.failed_at why
