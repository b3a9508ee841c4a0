use Rattle.std.proofs.Common.{◌-◌, ◌^◌, arith}
use Rattle.diverse_pairs.proofs.RowSpelling.{at_written}
use Rattle.diverse_pairs.proofs.writing.write_potential.Goals as goal

pub returns-clause-again : goal.returns-clause-again
returns-clause-again c = at_written c.args.addr c.args.number c.in_ok-write_addr.ensures.again (c.in_ok-write_number.ensures.again (2 ^ 64 - 1) (omega arith))
