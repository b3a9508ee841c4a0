-- The answer is unique, since the rule of ties leaves no choice. The premise on the order says no more than that far addresses
-- differ; every topology has it.
use Rattle.std.specs.Prelude.{◌≡◌, ◌≤◌}
use Rattle.dom_base.specs.declared.limits.TheConstants.{COST_MAX}
use Rattle.te_links.specs.Rows.{Rows, IsInOrder}
use Rattle.pcep_messages.specs.declared.message.Message.{Message}
use Rattle.one_domain.specs.declared.replying.PathRequest.{PathRequest}
use Rattle.one_domain.specs.Replies.{IsReply}

-- a request has only one reply, and so only one text
abbrev pub ReplyIsOne : Type 0
ReplyIsOne =
    (g : Rows) (r : PathRequest) (m n : Message) → IsInOrder g → r.wanted.query.cap ≤ COST_MAX → IsReply g r m → IsReply g r n → m ≡ n
