use Rattle.pce_tool.proofs.PairReplies.{replies_fit}
use Rattle.pce_tool.proofs.commands.pair.reply_of.Goals as goal

pub returns-clause-fits : goal.returns-clause-fits
returns-clause-fits c =
    rw (c.from_vec.ensures, c.in_ok-vec.ensures.items)
    (replies_fit c.args.request.now.flags c.args.request.now.first c.args.request.now.second c.in_ok-one.field-0.one c.in_ok-one.field-0.other c.in_ok-one.ensures.small.0 c.in_ok-one.ensures.small.1)
