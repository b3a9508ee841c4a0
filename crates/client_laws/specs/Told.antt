-- The messages that a client which asks once receives, and the lines that it is told of them.
use Rattle.std.specs.Prelude.{◌≡◌, ℕ, true, is_some, List, [], ◌∷◌, Contains, Option, Some}
use Rattle.dom_edge.specs.Stores.{Files}
use Rattle.plant_play.specs.plant_model.Types.{Message, Reply, NetworkParts, Outside}
use Rattle.pcep_messages.specs.declared.message.Message.TheVariants as messages
use Rattle.plant_text.specs.Settings.{class_of, peer_row}
use Rattle.plant_play.specs.plant_model.Element.{is_client}
use Rattle.plant_play.specs.plant_model.Laws.{IsNetwork}
use Rattle.plant_play.specs.plant_model.Plant.{Entry, deeds_of}
use Rattle.plant_play.specs.plant_model.RealWire.{wire}
use Rattle.run_laws.specs.plant_laws.About.{IsPathAnswer}
use Rattle.plant_play.specs.Turns.{entries_of}
use Rattle.client_laws.specs.Headline.{HasIdsLeft}
use Rattle.plant_client.specs.plant_play.transcript.Replies.{message_lines}
use Rattle.plant_client.specs.declared.question.Question.{Question}
use Rattle.plant_client.specs.Asking.{Asks}
use Rattle.plant_client.specs.Telling.{told_text}
use Rattle.run_laws.specs.Outlets.{Outlet, bytes_of, outlet}
use Rattle.run_laws.specs.Received.{IsRight}

-- what the last of these messages answers, as lines for a person
abbrev pub last_lines : List Message → List ℕ
last_lines [] = []
last_lines (m ∷ []) = message_lines m
last_lines (m ∷ next ∷ ms) = last_lines (next ∷ ms)

-- It receives all that was put for it since its Open, and is told what the last of that answers. Each reply to a request for a path among it
-- is right.
pub record IsTold (n : NetworkParts) (es : List Entry) (client : ℕ) (received : List ℕ) : Type 0 where
  pub connection : Outlet
  pub is_open : outlet client es ≡ Some connection
  pub all : received ≡ bytes_of wire connection.put
  pub told : told_text received ≡ last_lines connection.put
  pub right : (replies : List Reply) → Contains connection.put (messages.PcRep replies) → (r : Reply) → Contains replies r → IsPathAnswer r → IsRight n (deeds_of wire n es) client r

-- the peer of this number is a client
pub record IsClient (n : NetworkParts) (client : ℕ) : Type 0 where
  pub known : is_some (peer_row client n.peers) ≡ true
  pub class : is_client (class_of n (Outside client)) ≡ true

abbrev pub ClientsAreTold : Type 0
ClientsAreTold =
    (files : Option Files) (n : NetworkParts) (client : ℕ) (question : Question) (received : List ℕ) → IsNetwork n → IsClient n client →
    (a : Asks files n client question received) → HasIdsLeft n (entries_of a.lines.turns []) → IsTold n (entries_of a.lines.turns []) client received
