use Rattle.path_certificate.proofs.RowSpelling.{no_label_written}
use Rattle.path_certificate.proofs.writing.write_no_label.Goals as goal

pub returns-clause-again : goal.returns-clause-again
returns-clause-again c = no_label_written c.args.addr c.in_ok-write_addr.ensures.again
