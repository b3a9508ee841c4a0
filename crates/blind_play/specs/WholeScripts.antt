-- The lines of a script, played on a network without topologies one after the other, and why a script stops before its end.
use Rattle.std.specs.Prelude.{◌≡◌, ◌<◌, ◌≤◌, ℕ, List, [], ◌∷◌, ◌++◌, length, Option, Some, None}
use Rattle.std.specs.Io.KnownBytes.{Appends, Keeps}
use Rattle.dom_edge.specs.Causes.{Rose}
use Rattle.dom_edge.specs.Whole.{AppendsSome}
use Rattle.line_text.specs.Lines.{NumberedLine, told_lines}
use Rattle.plant_network.specs.plant_model.Types.{LineEvent, NetworkParts}
use Rattle.plant_text.specs.Lines.{blind_line_in}
use Rattle.transcript.specs.declared.stop.Stop.{Stop}
use Rattle.transcript.specs.declared.stop.Stop.TheVariants as stop
use Rattle.transcript.specs.Stops.{input_name, line_most}
use Rattle.blind_play.specs.Playing.{Cue, IsNewNetwork, PlaysLine, PlayedNetwork}
use Rattle.blind_play.specs.Scripts.{AllPlayed}
use Rattle.blind_play.specs.Turns.{Turn}

-- ---- lines that are played

-- the cue that a line gives
pub record IsCue (n : NetworkParts) (l : NumberedLine) (c : Cue) : Type 0 where
  pub within : length l.text ≤ line_most
  pub number : c.number ≡ l.number
  pub says : blind_line_in n l.text ≡ Some (Some c.event)

-- line by line
abbrev pub AreCues : NetworkParts → List NumberedLine → List Cue → Type 0
AreCues n [] [] = Unit {0}
AreCues n [] (c ∷ cs) = ⊥
AreCues n (l ∷ ls) [] = ⊥
AreCues n (l ∷ ls) (c ∷ cs) = IsCue n l c × AreCues n ls cs

-- The lines are played one after the other on a network of these settings that has just been made.
pub record Playing (n : NetworkParts) (lines : List NumberedLine) (turns : List Turn) (told : List ℕ) (end : PlayedNetwork) : Type 0 where
  pub cues : List Cue
  pub are_cues : AreCues n lines cues
  pub start : PlayedNetwork
  pub new : IsNewNetwork n start
  pub played : AllPlayed start cues turns told end

-- ---- why a script stops

-- Why a line has no event: it is too long, or outside the form; "out of memory" says nothing.
abbrev pub IsNoEvent : NetworkParts → NumberedLine → Stop → Type 0
IsNoEvent n l (stop.BadLine number) = (number ≡ l.number) × (blind_line_in n l.text ≡ None)
IsNoEvent n l (stop.TooLarge name) = (name ≡ input_name) × (line_most < length l.text)
IsNoEvent n l stop.NoMemory = Unit {0}
IsNoEvent n l why = ⊥

-- The lines of a script before the others are played, and their transcript is written so.
pub record Reached (n : NetworkParts) (script : List ℕ) (Wrote : List ℕ → Type 0) (others : List NumberedLine) (end : PlayedNetwork) : Type 0 where
  pub done : List NumberedLine
  pub parts : told_lines script ≡ done ++ others
  pub turns : List Turn
  pub told : List ℕ
  pub playing : Playing n done turns told end
  pub wrote : Wrote told

-- the whole transcript is written; the pair is what was written before and after, where that is known
abbrev pub WroteAll : Option (List ℕ) × Option (List ℕ) → List ℕ → Type 0
WroteAll written told = Appends written.0 written.1 told

-- a first part of the transcript is written
abbrev pub WroteSome : Option (List ℕ) × Option (List ℕ) → List ℕ → Type 0
WroteSome written told = AppendsSome written.0 written.1 told

-- all lines are played, and their whole transcript is written
abbrev pub IsWhole : Option (List ℕ) × Option (List ℕ) → NetworkParts → List ℕ → Type 0
IsWhole written n script = (end : PlayedNetwork) × Reached n script (WroteAll written) [] end

-- some first lines are played, and a first part of their transcript is written
abbrev pub IsCut : Option (List ℕ) × Option (List ℕ) → NetworkParts → List ℕ → Type 0
IsCut written n script = (others : List NumberedLine) × ((end : PlayedNetwork) × Reached n script (WroteSome written) others end)

-- The lines before one are played, their whole transcript is written, and that line is why the script stops.
pub record StopsAt (written : Option (List ℕ) × Option (List ℕ)) (n : NetworkParts) (script : List ℕ) (why : Stop) : Type 0 where
  pub line : NumberedLine
  pub others : List NumberedLine
  pub end : PlayedNetwork
  pub reached : Reached n script (WroteAll written) (line ∷ others) end
  pub stops : IsNoEvent n line why

-- Why a script stops before its end; "out of memory" says nothing. `counts` are the output's faults before and after.
abbrev pub ScriptStops : Option (List ℕ) × Option (List ℕ) → ℕ × ℕ → NetworkParts → List ℕ → Stop → Type 0
ScriptStops written counts n script stop.WriteFault = Rose counts.0 counts.1 × IsCut written n script
ScriptStops written counts n script stop.NoMemory = IsCut written n script
ScriptStops written counts n script why = StopsAt written n script why

-- ---- one line

-- the event of a line that is not too long
pub record HasEvent (n : NetworkParts) (l : NumberedLine) (e : LineEvent) : Type 0 where
  pub within : length l.text ≤ line_most
  pub says : blind_line_in n l.text ≡ Some (Some e)

-- The line is played, and its transcript is written so.
pub record LinePlays (n : NetworkParts) (l : NumberedLine) (old new : PlayedNetwork) (Wrote : List ℕ → Type 0) : Type 0 where
  pub cue : Cue
  pub is_cue : IsCue n l cue
  pub turns : List Turn
  pub told : List ℕ
  pub plays : PlaysLine old cue turns told new
  pub wrote : Wrote told

-- Why a line stops the script. Nothing is written then, except where the output failed.
abbrev pub LineStops : Option (List ℕ) × Option (List ℕ) → ℕ × ℕ → NetworkParts → NumberedLine → PlayedNetwork → PlayedNetwork → Stop → Type 0
LineStops written counts n l old new stop.WriteFault = Rose counts.0 counts.1 × LinePlays n l old new (WroteSome written)
LineStops written counts n l old new stop.NoMemory = Keeps written.0 written.1
LineStops written counts n l old new why = Keeps written.0 written.1 × IsNoEvent n l why
