use Rattle.one_domain.proofs.Shown.{answered_if}
use Rattle.one_domain.proofs.replying.answer_of.Goals as goal

pub returns-in-Some : goal.returns-in-Some
returns-in-Some c =
    answered_if c.args.topology.now c.args.wanted.now c.in-Some.chosen c.path_answer.result (rw c.in-Some.is at c.in_ok-chosen.ensures.chosen) c.path_answer.ensures
