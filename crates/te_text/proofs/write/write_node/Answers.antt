use Rattle.te_text.proofs.RowSpelling.{node_written}
use Rattle.te_text.proofs.write.write_node.Goals as goal

pub returns-clause-again : goal.returns-clause-again
returns-clause-again c = node_written c.args.node c.in_ok-push_addr.ensures.again
