use Rattle.one_domain.proofs.Sizes.{reply_fits}
use Rattle.one_domain.proofs.replying.reply_of.Goals as goal

pub returns-clause-fits : goal.returns-clause-fits
returns-clause-fits c =
    rw (c.from_vec.ensures, c.in_ok-vec.ensures.items)
    (reply_fits c.args.topology.now c.args.request.now.wanted c.args.request.now.flags c.args.request.now.id c.in_ok-answer_of.field-0
    c.node_count-nodes.ensures.rules c.in_ok-answer_of.ensures)
