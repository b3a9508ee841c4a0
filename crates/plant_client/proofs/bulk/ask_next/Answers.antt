use Rattle.std.proofs.Common.{◌≤◌, length, sym, subst, arith}
use Rattle.plant_client.specs.declared.question.Question.{Question}
use Rattle.plant_client.specs.Questions.{sequence_most}
use Rattle.plant_client.proofs.bulk.ask_next.Goals as goal

pub exchange-requires : goal.exchange-requires
exchange-requires g c = record { few = subst (λ (q : Question). length q.sequence ≤ sequence_most) (sym c.in_ok-question.ensures.question) (omega arith) }
