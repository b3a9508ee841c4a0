-- The question of a client that asks once is taken by the client's element, nothing drops it, and it has an answer, or waits for an
-- outside peer that was asked on its way.
use Rattle.std.specs.Prelude.{◌≡◌, ◌≢◌, ◌≤◌, ℕ, List, [], ◌∷◌, Contains, Option, Some}
use Rattle.plant_play.specs.plant_model.Types.{As, Request, Wanted, NetworkParts, Outside}
use Rattle.dom_edge.specs.Stores.{Files}
use Rattle.pcep_messages.specs.declared.message.Wish.TheVariants as wishes
use Rattle.pcep_messages.specs.Spelling.{IsWritten}
use Rattle.plant_text.specs.Names.{parent_as}
use Rattle.request_table.specs.Pending.{key_of}
use Rattle.plant_play.specs.plant_model.declared.output.Output.{Output}
use Rattle.plant_play.specs.plant_model.Deeds.{element_of}
use Rattle.plant_play.specs.plant_model.Element.{Row}
use Rattle.plant_play.specs.plant_model.Laws.{IsNetwork}
use Rattle.plant_play.specs.plant_model.Plant.{Entry, Pin, Plant, PlantDeed, deeds_of}
use Rattle.plant_play.specs.plant_model.RealWire.{check_of, wire}
use Rattle.plant_play.specs.plant_model.State.{Takes}
use Rattle.plant_play.specs.plant_model.Wire.{Admitted, Wrong}
use Rattle.plant_play.specs.plant_model.Writing.{error_message}
use Rattle.run_laws.specs.plant_laws.Answered.{DropsFor, answers_of}
use Rattle.run_laws.specs.plant_laws.Chains.{WaitsOutside}
use Rattle.run_laws.specs.plant_laws.Transcript.{Transcript, Within}
use Rattle.plant_play.specs.Turns.{entries_of}
use Rattle.client_laws.specs.Headline.{HasIdsLeft}
use Rattle.plant_client.specs.declared.question.Question.{Question}
use Rattle.plant_client.specs.Asking.{Asks}
use Rattle.plant_client.specs.Questions.{asked_of, question_message}
use Rattle.client_laws.specs.Told.{IsClient}

-- ---- it is read as what it says

-- a request for a path under its number, or refused under that
pub record IsReadSo (question : Question) (d : As) : Type 0 where
  pub admitted : (r : Request) → check_of (asked_of question) d ≡ Admitted r → (r.id ≡ question.id) × (w : Wanted) × (r.wish ≡ wishes.Path w)
  pub refused : (rp : Option (ℕ × ℕ)) (kind value : ℕ) → check_of (asked_of question) d ≡ Wrong rp kind value → rp ≡ Some (0, question.id)

-- by each element
abbrev pub QuestionsAreRead : Type 0
QuestionsAreRead = (question : Question) (d : As) → d ≢ parent_as → IsReadSo question d

-- ---- it is taken

-- The client's element takes it, and no deed drops a request of the client: its session comes up and does not end.
pub record IsTakenUp (n : NetworkParts) (es : List Entry) (client : ℕ) (question : Question) : Type 0 where
  pub outputs : List Output
  pub older : Transcript
  pub within : Within (Takes (element_of n client) (Outside client) (question_message question) outputs ∷ older) (deeds_of wire n es)
  pub kept : (deed : PlantDeed) (before : Transcript) → Within (deed ∷ before) (deeds_of wire n es) → (d : As) (x : ℕ) → DropsFor d (Outside client) x deed → ⊥

abbrev pub QuestionIsTaken : Type 0
QuestionIsTaken =
    (files : Option Files) (n : NetworkParts) (client : ℕ) (question : Question) (received : List ℕ) → IsNetwork n → IsClient n client → IsWritten (question_message question) →
    (a : Asks files n client question received) → IsTakenUp n (entries_of a.lines.turns []) client question

-- ---- it has an answer

-- Its element answers it under its number, or refuses it by an error under that; or the end of its chain waits for an outside peer.
pub data HasAnswer (n : NetworkParts) (es : List Entry) (s : Plant) (client : ℕ) (question : Question) : Type 0 where
  answered : (deed : PlantDeed) (older : Transcript) → Within (deed ∷ older) (deeds_of wire n es) → 1 ≤ answers_of (element_of n client) (Outside client) question.id deed → HasAnswer n es s client question
  refused : (kind value : ℕ) (older : Transcript) →
      Within (Takes (element_of n client) (Outside client) (question_message question) (record { to = Outside client; message = error_message (Some (0, question.id)) kind value } ∷ []) ∷ older) (deeds_of wire n es) →
      HasAnswer n es s client question
  waits : (h : Row Pin) → Contains (s.elements (element_of n client)).pending.rows h → h.1.key ≡ key_of (Outside client) question.id → WaitsOutside wire s (deeds_of wire n es) (element_of n client) h →
      HasAnswer n es s client question

-- Where no id wraps around.
abbrev pub QuestionIsAnswered : Type 0
QuestionIsAnswered =
    (files : Option Files) (n : NetworkParts) (client : ℕ) (question : Question) (received : List ℕ) → IsNetwork n → IsClient n client → IsWritten (question_message question) →
    (a : Asks files n client question received) → HasIdsLeft n (entries_of a.lines.turns []) → HasAnswer n (entries_of a.lines.turns []) a.asked.state client question
