-- One line of a script, played with the text of the file that it names, and why it is not.
use Rattle.std.specs.Prelude.{◌≡◌, ◌≤◌, ℕ, List, [], length, Option, Some, None}
use Rattle.dom_edge.specs.Causes.{Rose}
use Rattle.dom_edge.specs.Stores.{Files, HasFile, IfFile, IsLongFile}
use Rattle.plant_network.specs.plant_model.Types.{NetFault, LineEvent}
use Rattle.plant_text.specs.declared.line.LineEvent.TheVariants as line
use Rattle.plant_network.specs.plant_model.Events.{Answered}
use Rattle.network_files.specs.declared.error.FileError.TheVariants as play
use Rattle.plant_play.specs.Logs.{Told, behind}
use Rattle.plant_play.specs.Playing.{IsWhyNot, PlaysLine, PlayedNetwork, cue}
use Rattle.plant_play.specs.Turns.{Turn}
use Rattle.transcript.specs.declared.stop.Stop.{Stop}
use Rattle.transcript.specs.declared.stop.Stop.TheVariants as stop

-- how many bytes a file that a line names may have
abbrev pub file_most : ℕ
file_most = 4194304

-- the name of the file of a line
abbrev pub file_name : LineEvent → Option (List ℕ)
file_name (line.Load at name) = Some name
file_name (line.Change at name) = Some name
file_name e = None

-- the text of that file; nothing where the line names none
abbrev pub HasText : Option Files → Option (List ℕ) → List ℕ → Type 0
HasText files None text = text ≡ []
HasText files (Some name) text = HasFile files name text × (length text ≤ file_most)

-- The line of this number is played, and its transcript is appended.
pub record PlaysCue (files : Option Files) (number : ℕ) (e : LineEvent) (answer : Answered) (old new : PlayedNetwork) (before after : Told) : Type 0 where
  pub file : List ℕ
  pub has : HasText files (file_name e) file
  pub turns : List Turn
  pub told : List ℕ
  pub plays : PlaysLine old (cue number e file) answer turns told new
  pub tells : after ≡ behind before told

-- a file that is named was not read
abbrev pub IsNoFile : Option Files → List ℕ → ℕ × ℕ → List ℕ → Stop → Type 0
IsNoFile files name counts failed_at stop.ReadFault = Rose counts.0 counts.1 × (failed_at ≡ name)
IsNoFile files name counts failed_at (stop.TooLarge file) = (file ≡ name) × IsLongFile files name file_most
IsNoFile files name counts failed_at stop.NoMemory = Unit {0}
IsNoFile files name counts failed_at why = ⊥

-- the file, its line and the fault, unless memory ran out
abbrev pub IsBadAt : List ℕ → ℕ → NetFault → Stop → Type 0
IsBadAt name line fault (stop.BadNetwork file at other) = (file ≡ name) × (at ≡ line) × (other ≡ fault)
IsBadAt name line fault stop.NoMemory = Unit {0}
IsBadAt name line fault why = ⊥

-- The file is refused at this line of it.
abbrev pub IsRefusedAt : Option Files → List ℕ → LineEvent → PlayedNetwork → PlayedNetwork → ℕ → NetFault → Type 0
IsRefusedAt files name e old new line fault = IfFile files name (λ file. (length file ≤ file_most) × IsWhyNot e file old new (play.BadFile line fault))

-- Why a file that is named stops the line. `counts` are the store's faults before and after.
abbrev pub IsFileStop : Option Files → List ℕ → LineEvent → PlayedNetwork → PlayedNetwork → ℕ × ℕ → List ℕ → Stop → Type 0
IsFileStop files name e old new counts failed_at stop.ReadFault = Rose counts.0 counts.1 × (failed_at ≡ name)
IsFileStop files name e old new counts failed_at (stop.BadNetwork file line fault) = (file ≡ name) × IsRefusedAt files name e old new line fault
IsFileStop files name e old new counts failed_at (stop.TooLarge file) = (file ≡ name) × IsLongFile files name file_most
IsFileStop files name e old new counts failed_at stop.NoMemory = Unit {0}
IsFileStop files name e old new counts failed_at why = ⊥

-- Why a line stops: its file, where it names one; "out of memory" says nothing.
abbrev pub IsCueStop : Option Files → Option (List ℕ) → LineEvent → PlayedNetwork → PlayedNetwork → ℕ × ℕ → List ℕ → Stop → Type 0
IsCueStop files None e old new counts failed_at why = why ≡ stop.NoMemory
IsCueStop files (Some name) e old new counts failed_at why = IsFileStop files name e old new counts failed_at why
