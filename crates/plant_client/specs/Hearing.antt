-- What the last message that a client received says of the path that it asked for.
use Rattle.std.specs.Prelude.{ℕ, List, [], ◌∷◌, Option, Some, None, Result, Ok, Err}
use Rattle.dom_base.specs.Words.{units}
use Rattle.plant_play.specs.plant_model.Types.{Answer, Bad, Message, Path, Reply}
use Rattle.pcep_messages.specs.declared.message.Answer.TheVariants.{Paths, NoPath}
use Rattle.pcep_messages.specs.declared.message.Message.TheVariants as messages
use Rattle.pcep_messages.specs.Messages.{message_of}
use Rattle.plant_client.specs.declared.hearing.Heard.{Heard}
use Rattle.plant_client.specs.declared.hearing.Heard.TheVariants as heard
use Rattle.plant_client.specs.Telling.{frames_of, last_of}

-- a path of this cost
abbrev pub with_cost : Option ℕ → Heard
with_cost None = heard.Nothing
with_cost (Some cost) = heard.Path cost

-- the cost is the value of the path's METRIC (RFC 5440, 7.8)
abbrev pub with_metric : Option (ℕ × ℕ) → Heard
with_metric None = heard.Nothing
with_metric (Some (kind, word)) = with_cost (units word)

-- of a reply its first path counts
abbrev pub in_paths : List Path → Heard
in_paths [] = heard.Nothing
in_paths (p ∷ ps) = with_metric p.metric

abbrev pub in_answer : Answer → Heard
in_answer (Paths paths) = in_paths paths
in_answer (NoPath nature vector) = heard.NoPath

abbrev pub in_replies : List Reply → Heard
in_replies [] = heard.Nothing
in_replies (r ∷ rs) = in_answer r.answer

abbrev pub in_message : Message → Heard
in_message (messages.PcRep replies) = in_replies replies
in_message (messages.PcNtf notices) = heard.Nothing
in_message (messages.PcErr reports) = heard.Nothing
in_message (messages.PcReq asks) = heard.Nothing
in_message (messages.Open body) = heard.Nothing
in_message messages.Keepalive = heard.Nothing
in_message (messages.Close reason) = heard.Nothing
in_message (messages.Other kind) = heard.Nothing

abbrev pub in_reading : Result Message Bad → Heard
in_reading (Ok message) = in_message message
in_reading (Err why) = heard.Nothing

abbrev pub in_frame : Option (List ℕ) → Heard
in_frame None = heard.Nothing
in_frame (Some frame) = in_reading (message_of frame)

abbrev pub heard_in : List ℕ → Heard
heard_in received = in_frame (last_of (frames_of received))
