-- `answer TOPO`: the reply of a domain's element to a client, as lower-case hexadecimal text and a line end.
use Rattle.std.specs.Prelude.{◌≡◌, ℕ, List, [], ◌∷◌, ◌++◌}
use Rattle.te_links.specs.Rows.{Rows}
use Rattle.line_text.specs.Hexadecimal.{hex_text}
use Rattle.client_laws.specs.plant_model.Types.{Message}
use Rattle.pcep_messages.specs.Spelling.{message_text}
use Rattle.one_domain.specs.declared.replying.PathRequest.{PathRequest}
use Rattle.one_domain.specs.Replies.{IsReply}

pub record IsReplyText (g : Rows) (r : PathRequest) (text : List ℕ) : Type 0 where
  pub message : Message
  pub is_reply : IsReply g r message
  pub is_text : text ≡ hex_text (message_text message) ++ 10 ∷ []
