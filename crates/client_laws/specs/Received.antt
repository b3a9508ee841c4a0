-- The messages that a client which asks one question behind the other receives for each, and what it hears of them.
use Rattle.std.specs.Prelude.{◌≡◌, ℕ, List, [], ◌∷◌, ◌++◌, map, Contains, Option, Some}
use Rattle.dom_edge.specs.Stores.{Files}
use Rattle.plant_play.specs.plant_model.Types.{Message, Reply, NetworkParts}
use Rattle.pcep_messages.specs.declared.message.Message.TheVariants as messages
use Rattle.plant_play.specs.plant_model.Laws.{IsNetwork}
use Rattle.plant_play.specs.plant_model.Plant.{Entry, Run, deeds_of}
use Rattle.plant_play.specs.plant_model.RealWire.{wire}
use Rattle.run_laws.specs.plant_laws.About.{IsPathAnswer}
use Rattle.plant_play.specs.Playing.{PlayedNetwork}
use Rattle.plant_play.specs.Turns.{Turn, entries_of}
use Rattle.client_laws.specs.Headline.{HasIdsLeft}
use Rattle.plant_client.specs.declared.hearing.Heard.{Heard}
use Rattle.plant_client.specs.declared.hearing.Heard.TheVariants as heard
use Rattle.plant_client.specs.declared.question.Question.{Question}
use Rattle.plant_client.specs.Asking.{Begins}
use Rattle.plant_client.specs.Hearing.{heard_in, in_message}
use Rattle.plant_client.specs.Bulk.{AsksAll}
use Rattle.run_laws.specs.Outlets.{Outlet, bytes_of, outlet}
use Rattle.run_laws.specs.Received.{IsRight}
use Rattle.client_laws.specs.Told.{IsClient}

-- what the last of these messages says of a path
abbrev pub last_heard : List Message → Heard
last_heard [] = heard.Nothing
last_heard (m ∷ []) = in_message m
last_heard (m ∷ next ∷ ms) = last_heard (next ∷ ms)

abbrev pub all_of : List (List Message) → List Message
all_of [] = []
all_of (ms ∷ others) = ms ++ all_of others

-- For each question some messages are received, one list behind the other: they are what was put for the client, and what it was not
-- handed by then. What is heard for a question is what its last message says.
pub record AreReceived (n : NetworkParts) (es : List Entry) (client : ℕ) (received : List (List ℕ)) : Type 0 where
  pub connection : Outlet
  pub is_open : outlet client es ≡ Some connection
  pub news : List (List Message)
  pub waiting : List Message
  pub put : all_of news ++ waiting ≡ connection.put
  pub each : received ≡ map (bytes_of wire) news
  pub heard : map heard_in received ≡ map last_heard news
  pub right : (replies : List Reply) → Contains connection.put (messages.PcRep replies) → (r : Reply) → Contains replies r → IsPathAnswer r → IsRight n (deeds_of wire n es) client r

abbrev pub ManyAreReceived : Type 0
ManyAreReceived =
    (files : Option Files) (n : NetworkParts) (client : ℕ) (questions : List Question) (received : List (List ℕ)) → IsNetwork n → IsClient n client →
    (begun end : PlayedNetwork) (b : Begins files n client begun) (turns : List Turn) → AsksAll files client questions begun received turns end →
    Run wire n (entries_of (b.lines.turns ++ turns) []) end.state → HasIdsLeft n (entries_of (b.lines.turns ++ turns) []) →
    AreReceived n (entries_of (b.lines.turns ++ turns) []) client received
