use Rattle.std.proofs.Common.{arith}
use Rattle.dom_base.specs.declared.limits.TheConstants.{COST_MAX}
use Rattle.path_certificate.proofs.RowSpelling.{label_written}
use Rattle.path_certificate.proofs.writing.write_label.Goals as goal

pub returns-clause-again : goal.returns-clause-again
returns-clause-again c =
    label_written c.args.addr c.args.label.now c.in_ok-write_addr.ensures.again
    (rw (c.from.ensures, c.get.ensures.number) at (c.in_ok-write_number.ensures.again COST_MAX (omega arith))) c.in_ok-write_addr-2.ensures.again
