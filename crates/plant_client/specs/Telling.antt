-- What a client received, as lines for a person to read.
use Rattle.std.specs.Prelude.{ℕ, ◌-◌, false, List, [], length, Option, Some, None, Result, Ok, Err, slice_get}
use Rattle.pcep_framing.specs.Feeding.{feed_of}
use Rattle.plant_play.specs.plant_model.Types.{Bad, Message}
use Rattle.pcep_messages.specs.Messages.{message_of}
use Rattle.plant_play.specs.transcript.Replies.{message_lines}

-- the whole messages of a stream
abbrev pub frames_of : List ℕ → List (List ℕ)
frames_of stream = (feed_of (record { held = []; bad = false }) stream).frames

-- a frame that is no message tells nothing
abbrev pub lines_of : Result Message Bad → List ℕ
lines_of (Ok message) = message_lines message
lines_of (Err why) = []

abbrev pub frame_lines : Option (List ℕ) → List ℕ
frame_lines None = []
frame_lines (Some frame) = lines_of (message_of frame)

abbrev pub last_of : List (List ℕ) → Option (List ℕ)
last_of frames = slice_get frames (length frames - 1)

-- what the last message answers; nothing where no whole message came
abbrev pub told_text : List ℕ → List ℕ
told_text received = frame_lines (last_of (frames_of received))
