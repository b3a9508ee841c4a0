-- What a client sends (RFC 5440, 6.2 to 6.4): it opens its session, and asks for paths.
use Rattle.std.specs.Prelude.{ℕ, false, List, [], ◌∷◌, ◌++◌}
use Rattle.pcep_codes.specs.declared.TheConstants.{VERSION}
use Rattle.pcep_codes.specs.declared.classes.TheConstants as classes
use Rattle.pcep_objects.specs.declared.object.Body.TheVariants as bodies
use Rattle.plant_play.specs.plant_model.Types.{Asked, Message}
use Rattle.pcep_messages.specs.declared.message.Message.TheVariants as messages
use Rattle.pcep_messages.specs.Spelling.{message_text}
use Rattle.plant_play.specs.plant_model.Writing.{bandwidth, ends, iro, needed}
use Rattle.plant_client.specs.declared.question.Question.{Question}

-- how many domains a sequence may have
abbrev pub sequence_most : ℕ
sequence_most = 16

-- one request: its number, the two ends, and the bandwidth and the sequence of domains where there are such
abbrev pub asked_of : Question → Asked
asked_of q = record { objects = needed classes.RP (bodies.Rp 0 q.id) ∷ ends q.source q.target ∷ bandwidth q.bandwidth ++ iro q.sequence }

abbrev pub question_message : Question → Message
question_message q = messages.PcReq (asked_of q ∷ [])

abbrev pub question_text : Question → List ℕ
question_text q = message_text (question_message q)

-- an Open that asks for no Keepalives and never holds a session for dead
abbrev pub open_message : Message
open_message = messages.Open (record { version = VERSION; offer = record { keepalive = 0; dead = 0; sid = 1; stateful = false } })

-- the two messages that open a session
abbrev pub opening_text : List ℕ
opening_text = message_text open_message ++ message_text messages.Keepalive
