-- How a client asks a network for a path: the lines that are played for it, what it receives, and why it may fail.
use Rattle.std.specs.Prelude.{◌≡◌, ℕ, List, [], ◌∷◌, ◌++◌, map, Option, Some, None, Ok, Err}
use Rattle.std.specs.List.{flat_map}
use Rattle.plant_play.specs.plant_model.Types.{As, LineEvent, ElementRow, NetworkParts}
use Rattle.dom_edge.specs.Stores.{Files}
use Rattle.pcep_subobjects.specs.Subobjects.{AreOctets}
use Rattle.plant_text.specs.declared.line.LineEvent.TheVariants as line
use Rattle.plant_text.specs.Settings.{elements_of, row_of}
use Rattle.plant_play.specs.plant_model.declared.outcome.Outcome.TheVariants as outcome
use Rattle.plant_play.specs.plant_model.Events.{Answered}
use Rattle.plant_play.specs.Playing.{Cue, IsNewNetwork, PlaysLine, PlayedNetwork}
use Rattle.plant_play.specs.Scripts.{AllPlayed}
use Rattle.plant_play.specs.Turns.{Turn}
use Rattle.transcript.specs.declared.stop.Stop.{Stop}
use Rattle.transcript.specs.declared.stop.Stop.TheVariants as stop
use Rattle.plant_play.specs.Cues.{HasText, IsFileStop, file_name}
use Rattle.plant_client.specs.declared.question.Question.{Question}
use Rattle.plant_client.specs.Questions.{opening_text, question_text}

-- ---- the lines

-- a domain with the name of its topology's file, where the settings name one
abbrev pub named : As → Option (List ℕ) → List (As × List ℕ)
named at None = []
named at (Some name) = (at, name) ∷ []

abbrev pub name_in : Option ElementRow → Option (List ℕ)
name_in None = None
name_in (Some row) = row.topology

-- those of these domains whose topologies the settings name, each with the name of its file
abbrev pub topologies_at : List ElementRow → List As → List (As × List ℕ)
topologies_at rows domains = flat_map (λ at. named at (name_in (row_of at rows))) domains

-- the same of all elements, in rising order
abbrev pub topologies : List ElementRow → List (As × List ℕ)
topologies rows = topologies_at rows (elements_of rows)

abbrev pub load_line : As × List ℕ → LineEvent
load_line topology = line.Load topology.0 topology.1

-- the network settles, and a session is opened
abbrev pub session_lines : ℕ → List LineEvent
session_lines client = line.Settle ∷ line.Open (Some client) 0 ∷ line.Feed (Some client) opening_text ∷ []

-- a path is asked for, and the network goes on to its end
abbrev pub asking_lines : ℕ → Question → List LineEvent
asking_lines client question = line.Feed (Some client) (question_text question) ∷ line.Finish ∷ []

abbrev pub question_lines : ℕ → Question → List LineEvent
question_lines client question = session_lines client ++ asking_lines client question

-- all topologies are loaded, and a session is opened
abbrev pub opening_lines : NetworkParts → ℕ → List LineEvent
opening_lines n client = map load_line (topologies n.elements) ++ session_lines client

-- then it is asked
abbrev pub lines_of : NetworkParts → ℕ → Question → List LineEvent
lines_of n client question = map load_line (topologies n.elements) ++ question_lines client question

-- ---- lines that are played

-- a line without a number of its own, with the text of the file that it names
pub record IsCue (files : Option Files) (e : LineEvent) (c : Cue) : Type 0 where
  pub number : c.number ≡ 0
  pub event : c.event ≡ e
  pub has : HasText files (file_name e) c.file

abbrev pub AreCues : Option Files → List LineEvent → List Cue → Type 0
AreCues files [] [] = Unit {0}
AreCues files [] (c ∷ cs) = ⊥
AreCues files (e ∷ es) [] = ⊥
AreCues files (e ∷ es) (c ∷ cs) = IsCue files e c × AreCues files es cs

-- the lines are played one after the other
pub record ArePlayed (files : Option Files) (lines : List LineEvent) (old new : PlayedNetwork) : Type 0 where
  pub cues : List Cue
  pub are_cues : AreCues files lines cues
  pub turns : List Turn
  pub told : List ℕ
  pub played : AllPlayed old cues turns told new

-- a line is played, with this answer
pub record IsPlayed (files : Option Files) (e : LineEvent) (old : PlayedNetwork) (answer : Answered) (new : PlayedNetwork) : Type 0 where
  pub cue : Cue
  pub is_cue : IsCue files e cue
  pub turns : List Turn
  pub told : List ℕ
  pub plays : PlaysLine old cue answer turns told new

-- ---- what the client receives

-- the bytes that are handed out; no other answer has any
abbrev pub received_in : Answered → List ℕ
received_in (Ok (outcome.Drained bytes ended)) = bytes
received_in (Ok outcome.Done) = []
received_in (Ok (outcome.Loaded generation)) = []
received_in (Err why) = []

-- what waits for the client is handed out
pub record Receives (files : Option Files) (client : ℕ) (old : PlayedNetwork) (received : List ℕ) (new : PlayedNetwork) : Type 0 where
  pub answer : Answered
  pub drains : IsPlayed files (line.Drain (Some client) 0) old answer new
  pub bytes : received ≡ received_in answer

-- Over a network of these settings that has just been made, all topologies are loaded, and the client opens its session.
pub record Begins (files : Option Files) (n : NetworkParts) (client : ℕ) (begun : PlayedNetwork) : Type 0 where
  pub start : PlayedNetwork
  pub new : IsNewNetwork n start
  pub lines : ArePlayed files (opening_lines n client) start begun

-- The client asks, and receives. What it sends is octets.
pub record Exchanges (files : Option Files) (client : ℕ) (question : Question) (old : PlayedNetwork) (received : List ℕ) (new : PlayedNetwork) : Type 0 where
  pub asked : PlayedNetwork
  pub lines : ArePlayed files (asking_lines client question) old asked
  pub octets : AreOctets (question_text question)
  pub receives : Receives files client asked received new

-- The same of a client that asks once: all lines are played, and then it receives.
pub record Asks (files : Option Files) (n : NetworkParts) (client : ℕ) (question : Question) (received : List ℕ) : Type 0 where
  pub start : PlayedNetwork
  pub new : IsNewNetwork n start
  pub asked : PlayedNetwork
  pub lines : ArePlayed files (lines_of n client question) start asked
  pub octets : AreOctets (question_text question)
  pub end : PlayedNetwork
  pub receives : Receives files client asked received end

-- ---- why it fails

-- The topologies before one are loaded, and its file stops it.
pub record StopsAtFile (files : Option Files) (topologies : List (As × List ℕ)) (old : PlayedNetwork) (counts : ℕ × ℕ) (failed_at : List ℕ) (why : Stop) : Type 0 where
  pub before : List (As × List ℕ)
  pub topology : As × List ℕ
  pub behind : List (As × List ℕ)
  pub parts : topologies ≡ before ++ topology ∷ behind
  pub loaded : PlayedNetwork
  pub lines : ArePlayed files (map load_line before) old loaded
  pub end : PlayedNetwork
  pub stops : IsFileStop files topology.1 (load_line topology) loaded end counts failed_at why

-- "out of memory" says nothing
abbrev pub LoadsStop : Option Files → List (As × List ℕ) → PlayedNetwork → ℕ × ℕ → List ℕ → Stop → Type 0
LoadsStop files topologies old counts failed_at stop.NoMemory = Unit {0}
LoadsStop files topologies old counts failed_at why = StopsAtFile files topologies old counts failed_at why

-- Over a network of these settings that has just been made, the file of a topology stops it, or memory runs out.
abbrev pub AskStops : Option Files → NetworkParts → ℕ × ℕ → List ℕ → Stop → Type 0
AskStops files n counts failed_at stop.NoMemory = Unit {0}
AskStops files n counts failed_at why =
    (start : PlayedNetwork) × IsNewNetwork n start × StopsAtFile files (topologies n.elements) start counts failed_at why
