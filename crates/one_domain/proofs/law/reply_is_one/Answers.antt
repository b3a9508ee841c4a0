use Rattle.one_domain.proofs.OneReply.{one_reply}
use Rattle.one_domain.proofs.law.reply_is_one.Goals as goal

pub returns : goal.returns
returns c = one_reply
