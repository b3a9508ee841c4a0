-- A question whose numbers are those of their types can be written.
use Rattle.std.proofs.Common.{◌≡◌, ◌≤◌, ◌<◌, ◌^◌, ◌+◌, [], ◌∷◌, ◌++◌, All, length, sym, subst, refl, arith}
use Rattle.std.specs.List.{AllByRecursion}
use Rattle.std.proofs.lemmas.List.{append-nil}
use Rattle.plant_play.specs.plant_model.Types.{As, Object}
use Rattle.pcep_codes.specs.declared.classes.TheConstants as classes
use Rattle.pcep_subobjects.specs.Addresses.{IsAddr, bits_of}
use Rattle.pcep_objects.specs.declared.object.Body.TheVariants as bodies
use Rattle.pcep_objects.specs.Spelling as objects
use Rattle.pcep_objects.specs.Spelling.{IsWord}
use Rattle.pcep_messages.specs.Spelling.{IsWritten, objects_in}
use Rattle.plant_play.specs.plant_model.Writing.{bandwidth, ends, iro, needed}
use Rattle.run_laws.proofs.plant_laws.plant_model.ReadSound.{Maybe}
use Rattle.run_laws.proofs.plant_laws.plant_model.Sends.{IsPart, bandwidth_part, ends_part, iro_part, joined}
use Rattle.plant_client.specs.declared.question.Question.{Question}
use Rattle.plant_client.specs.Questions.{asked_of, question_message, sequence_most}
use Rattle.plant_client.proofs.QuestionLemmas.{question_short}

-- its numbers are those of their types, its ends are of one kind, and its domains few
pub record IsInRange (q : Question) : Type 0 where
  pub id : q.id < 2 ^ 32
  pub source : IsAddr q.source
  pub target : IsAddr q.target
  pub alike : bits_of q.source ≡ bits_of q.target
  pub bandwidth : Maybe IsWord q.bandwidth
  pub sequence : All (λ (a : As). a.0 < 2 ^ 16) q.sequence
  pub few : length q.sequence ≤ sequence_most

pub question_written : (q : Question) → IsInRange q → IsWritten (question_message q)
question_written q fits = record {
  shape = (omega arith, ((refl, behind.no_rp), tt));
  objects = subst (AllByRecursion objects.IsWritten) (sym listed) (rp_written, behind.written);
  small = question_short q fits.few;
}
  where
    rp : Object
    rp = needed classes.RP (bodies.Rp 0 q.id)

    listed : objects_in (question_message q) ≡ rp ∷ ends q.source q.target ∷ bandwidth q.bandwidth ++ iro q.sequence
    listed = append-nil (asked_of q).objects

    rp_written : objects.IsWritten rp
    rp_written = record { class = omega arith; octets = tt; kind = omega arith; placed = (refl, refl); fits = (omega arith, fits.id); small = omega arith }

    behind : IsPart (36 + (8 + 68)) (ends q.source q.target ∷ bandwidth q.bandwidth ++ iro q.sequence)
    behind =
        joined 36 (8 + 68) (ends q.source q.target ∷ []) (bandwidth q.bandwidth ++ iro q.sequence) (ends_part q.source q.target fits.source fits.target fits.alike)
        (joined 8 68 (bandwidth q.bandwidth) (iro q.sequence) (bandwidth_part q.bandwidth fits.bandwidth) (iro_part q.sequence (omega (arith, fits.few)) fits.sequence))
