use Rattle.std.proofs.Common.{◌≡◌, ◌<◌, ◌++◌, ◌∙◌, ℕ, Err, List, length, ap, arith, subst}
use Rattle.pcep_subobjects.specs.Subobjects.{AreOctets}
use Rattle.plant_play.specs.plant_model.Types.{Message}
use Rattle.pcep_messages.specs.Spelling.{message_text}
use Rattle.plant_client.specs.Questions.{question_text}
use Rattle.plant_client.proofs.QuestionLemmas.{question_short}
use Rattle.plant_client.proofs.question.question_bytes.Goals as goal

pub unreachable-requires : goal.unreachable-requires
unreachable-requires c =
    let question = c.args.question.now in
    let long : 65532 < length (message_text c.in_ok-message.message) = c.write_message.ensures.too_long.0 (c.in-Err-TooLong.is ∙ ap Err c.in-Err-TooLong.field-0-is) in
    let same : length (message_text c.in_ok-message.message) ≡ length (question_text question) = ap (λ (m : Message). length (message_text m)) c.in_ok-message.ensures in
    omega (arith, long, same, question_short question c.requires.few)

pub returns-in-Ok-clause-octets : goal.returns-in-Ok-clause-octets
returns-in-Ok-clause-octets c =
    let written : c.deref.result.now ≡ question_text c.args.question.now =
    c.deref.ensures.value
    ∙ c.in-Ok.ensures.ok
    ∙ ap (λ (l : List ℕ). l ++ message_text c.in_ok-message.message) c.new-text.ensures.items
    ∙ ap (λ (m : Message). message_text m) c.in_ok-message.ensures in
    subst (λ (l : List ℕ). AreOctets l) written c.are_octets.ensures
