-- A client of the first domain of the drawn network asks one question behind the other, each when the network has come to its end.
use Rattle.std.specs.Prelude.{◌≡◌, ℕ, List, [], ◌∷◌, ◌++◌, Option, Some}
use Rattle.plant_play.specs.plant_model.Types.{As, NetworkParts}
use Rattle.dom_edge.specs.Stores.{Files, file_named}
use Rattle.plant_text.specs.Networks.{with_path}
use Rattle.plant_play.specs.Playing.{PlayedNetwork}
use Rattle.plant_play.specs.Turns.{Turn}
use Rattle.plant_client.specs.declared.question.Question.{Question}
use Rattle.plant_client.specs.Asking.{Begins, Exchanges}
use Rattle.network_files.specs.DrawnFiles.{AreFiles}
use Rattle.network_files.specs.DrawnSettings.{settings}
use Rattle.plant_client.specs.declared.requests.Demand.{Demand}
use Rattle.plant_client.specs.declared.tally.Tally.{Tally}
use Rattle.plant_client.specs.Requests.{questions}
use Rattle.plant_client.specs.Tallies.{tally_of}

abbrev pub first_domain : As
first_domain = record { 0 = 1 }

-- the drawn settings with the client, which is the only outside peer
abbrev pub network : NetworkParts
network = with_path settings first_domain

abbrev pub client : ℕ
client = 0

-- the events of a question that is put, until what waits for the client is handed out
abbrev pub turns_of : {files : Option Files} {at : ℕ} {q : Question} {old : PlayedNetwork} {came : List ℕ} {new : PlayedNetwork} → Exchanges files at q old came new → List Turn
turns_of {files} {at} {q} {old} {came} {new} x = x.lines.turns ++ x.receives.drains.turns

-- one question, and then others
pub record AsksFirst (Others : PlayedNetwork → List (List ℕ) → List Turn → PlayedNetwork → Type 0) (files : Option Files) (at : ℕ) (q : Question) (old : PlayedNetwork) (received : List (List ℕ)) (turns : List Turn) (new : PlayedNetwork) : Type 0 where
  pub came : List ℕ
  pub mid : PlayedNetwork
  pub exchange : Exchanges files at q old came mid
  pub later : List (List ℕ)
  pub more : List Turn
  pub others : Others mid later more new
  pub received_are : received ≡ came ∷ later
  pub turns_are : turns ≡ turns_of exchange ++ more

-- The questions are put one behind the other: what is received for each, and the events.
abbrev pub AsksAll : Option Files → ℕ → List Question → PlayedNetwork → List (List ℕ) → List Turn → PlayedNetwork → Type 0
AsksAll files at [] old received turns new = (received ≡ []) × (turns ≡ []) × (new ≡ old)
AsksAll files at (q ∷ qs) old received turns new = AsksFirst (λ mid later more end. AsksAll files at qs mid later more end) files at q old received turns new

-- The drawn network begins, over the drawn files, and so many requests are put.
pub record IsBulk (d : Demand) (n : ℕ) (received : List (List ℕ)) : Type 0 where
  pub files : List (List ℕ × List ℕ)
  pub drawn : AreFiles files
  pub begun : PlayedNetwork
  pub begins : Begins (Some (file_named files)) network client begun
  pub turns : List Turn
  pub end : PlayedNetwork
  pub asks : AsksAll (Some (file_named files)) client (questions d n) begun received turns end

-- all events of such a run
abbrev pub bulk_turns : {d : Demand} {n : ℕ} {received : List (List ℕ)} → IsBulk d n received → List Turn
bulk_turns {d} {n} {received} b = b.begins.lines.turns ++ b.turns

-- the tally of the answers of such a run
abbrev pub IsTallied : Demand → ℕ → Tally → Type 0
IsTallied d n tally = (received : List (List ℕ)) × IsBulk d n received × (tally ≡ tally_of received)

-- the same of the questions alone
abbrev pub AreTallied : Option Files → List Question → PlayedNetwork → PlayedNetwork → Tally → Type 0
AreTallied files qs old new tally = (received : List (List ℕ)) × (turns : List Turn) × AsksAll files client qs old received turns new × (tally ≡ tally_of received)
