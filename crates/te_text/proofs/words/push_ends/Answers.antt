use Rattle.te_text.proofs.Spelling.{spells_ends}
use Rattle.te_text.proofs.words.push_ends.Goals as goal

pub returns-clause-again : goal.returns-clause-again
returns-clause-again c =
    spells_ends c.args.link.now c.in_ok-push_addr.ensures.again c.in_ok-push_addr-2.ensures.again c.in_ok-push_addr-3.ensures.again c.in_ok-push_addr-4.ensures.again
