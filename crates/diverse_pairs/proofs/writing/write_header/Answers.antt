use Rattle.std.proofs.Common.{◌-◌, ◌^◌, arith}
use Rattle.diverse_pairs.proofs.RowSpelling.{header_written}
use Rattle.diverse_pairs.proofs.writing.write_header.Goals as goal

pub returns-clause-again : goal.returns-clause-again
returns-clause-again c = header_written c.args.own (rw c.from.ensures at (c.in_ok-write_number.ensures.again (2 ^ 16 - 1) (omega arith)))
