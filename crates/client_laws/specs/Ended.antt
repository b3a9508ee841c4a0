-- A client that asks once is told the answer to its question: nothing is said to it behind that, and no answer is without lines.
use Rattle.std.specs.Prelude.{◌≡◌, ◌≤◌, ℕ, List, [], ◌∷◌, ◌++◌, length, Option, Some}
use Rattle.dom_edge.specs.Stores.{Files}
use Rattle.plant_play.specs.plant_model.Types.{Answer, Message, NetworkParts}
use Rattle.plant_play.specs.plant_model.Routes.{StaysInside}
use Rattle.pcep_messages.specs.Spelling.{IsWritten}
use Rattle.plant_play.specs.plant_model.Laws.{IsNetwork}
use Rattle.plant_play.specs.plant_model.Plant.{Entry}
use Rattle.plant_play.specs.plant_model.Writing.{busy, error_message, reply_message}
use Rattle.plant_play.specs.Turns.{entries_of}
use Rattle.client_laws.specs.Headline.{HasIdsLeft}
use Rattle.plant_client.specs.plant_play.transcript.Replies.{message_lines}
use Rattle.plant_client.specs.declared.question.Question.{Question}
use Rattle.plant_client.specs.Asking.{Asks}
use Rattle.plant_client.specs.Questions.{question_message}
use Rattle.plant_client.specs.Telling.{told_text}
use Rattle.run_laws.specs.Outlets.{Outlet, outlet}
use Rattle.client_laws.specs.Told.{IsClient}

-- The message answers the request of this id: a reply to it, that a table is full, or an error under it.
pub data IsAnswerTo (x : ℕ) (m : Message) : Type 0 where
  replies : (flags : ℕ) (answer : Answer) → m ≡ reply_message flags x answer → IsAnswerTo x m
  is_busy : (flags : ℕ) → m ≡ busy flags x → IsAnswerTo x m
  fails : (flags kind value : ℕ) → m ≡ error_message (Some (flags, x)) kind value → IsAnswerTo x m

-- The last message that was put for the client answers its question, and the client is told what it says, which is not nothing.
pub record EndsAnswered (es : List Entry) (client : ℕ) (question : Question) (received : List ℕ) : Type 0 where
  pub connection : Outlet
  pub is_open : outlet client es ≡ Some connection
  pub before : List Message
  pub last : Message
  pub put : connection.put ≡ before ++ last ∷ []
  pub answers : IsAnswerTo question.id last
  pub told : told_text received ≡ message_lines last
  pub some : 1 ≤ length (told_text received)

-- Where no id wraps around, and paths go on through no outside peer.
abbrev pub AnswerIsTold : Type 0
AnswerIsTold =
    (files : Option Files) (n : NetworkParts) (client : ℕ) (question : Question) (received : List ℕ) → IsNetwork n → IsClient n client → IsWritten (question_message question) → StaysInside n →
    (a : Asks files n client question received) → HasIdsLeft n (entries_of a.lines.turns []) → EndsAnswered (entries_of a.lines.turns []) client question received
