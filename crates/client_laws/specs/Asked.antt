-- The requests that elements have from a client that asks once.
use Rattle.std.specs.Prelude.{◌≡◌, ℕ, List, [], Option}
use Rattle.plant_play.specs.plant_model.Types.{As, Request, NetworkParts, Outside}
use Rattle.dom_edge.specs.Stores.{Files}
use Rattle.pcep_messages.specs.Spelling.{IsWritten}
use Rattle.plant_play.specs.plant_model.Laws.{IsNetwork}
use Rattle.plant_play.specs.plant_model.Plant.{Entry, deeds_of}
use Rattle.plant_play.specs.plant_model.RealWire.{check_of, wire}
use Rattle.plant_play.specs.plant_model.Wire.{Admitted}
use Rattle.run_laws.specs.plant_laws.Transcript.{Delivered, Transcript, Within}
use Rattle.plant_play.specs.Turns.{entries_of}
use Rattle.plant_client.specs.declared.question.Question.{Question}
use Rattle.plant_client.specs.Asking.{Asks}
use Rattle.plant_client.specs.Questions.{asked_of, question_message}
use Rattle.client_laws.specs.Told.{IsClient}

-- A moment that delivered a request of the client to an element delivered the question, which that element admits as this request.
abbrev pub AsksOnly : NetworkParts → List Entry → ℕ → Question → Type 0
AsksOnly n es client question =
    (d : As) (at : Transcript) (r : Request) → Within at (deeds_of wire n es) → Delivered wire at d (Outside client) r → check_of (asked_of question) d ≡ Admitted r

-- The premise on the question is that its numbers are those of its types.
abbrev pub OneIsAsked : Type 0
OneIsAsked =
    (files : Option Files) (n : NetworkParts) (client : ℕ) (question : Question) (received : List ℕ) → IsNetwork n → IsClient n client → IsWritten (question_message question) →
    (a : Asks files n client question received) → AsksOnly n (entries_of a.lines.turns []) client question
