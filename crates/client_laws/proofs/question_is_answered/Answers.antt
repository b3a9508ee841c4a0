use Rattle.client_laws.proofs.Answered as answered
use Rattle.client_laws.proofs.question_is_answered.Goals as goal

pub returns : goal.returns
returns c = record { read = answered.questions_are_read; taken = answered.question_is_taken; answered = answered.question_is_answered }
