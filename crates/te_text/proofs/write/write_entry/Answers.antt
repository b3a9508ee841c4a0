use Rattle.std.proofs.Common.{◌-◌, ◌^◌, arith}
use Rattle.te_text.proofs.RowSpelling.{entry_written}
use Rattle.te_text.proofs.write.write_entry.Goals as goal

pub returns-clause-again : goal.returns-clause-again
returns-clause-again c =
    entry_written c.args.entry c.in_ok-push_addr.ensures.again (rw c.from.ensures at (c.in_ok-push_number.ensures.again (2 ^ 16 - 1) (omega arith)))
