use Rattle.std.proofs.Common.{◌-◌, ◌^◌, arith}
use Rattle.te_text.proofs.Spelling.{spells_traits}
use Rattle.te_text.proofs.words.push_traits.Goals as goal

pub returns-clause-again : goal.returns-clause-again
returns-clause-again c =
    spells_traits c.args.link.now
    (rw c.from.ensures at (c.in_ok-push_number.ensures.again (2 ^ 32 - 1) (omega arith)))
    (rw c.from-2.ensures at (c.in_ok-push_number-2.ensures.again (2 ^ 32 - 1) (omega arith)))
    (c.in_ok-push_number-3.ensures.again (2 ^ 64 - 1) (omega arith))
    c.in_ok-push_colour.ensures.again
