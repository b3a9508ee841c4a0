-- The lost requests of a member are answered, one after the other.
use Rattle.std.specs.Prelude.{ℕ, ◌*◌, Bool, List, [], ◌∷◌, length, filter}
use Rattle.pce_common.specs.plant_model.Types.{As, Peer}
use Rattle.pcep_messages.specs.Spelling.{message_text}
use Rattle.plant_queues.specs.Messages.{Covers}
use Rattle.pce_common.specs.plant_model.declared.output.Lost.{Lost}
use Rattle.pce_common.specs.plant_model.Element.{lost_output}
use Rattle.pce_common.specs.plant_model.Wire.{Bytes}
use Rattle.network_links.specs.declared.TheConstants.{ANSWER_LENGTH}
use Rattle.network_links.specs.Flow.{Flow, SameFlow, put_flow, room_at}
use Rattle.network_events.specs.Accounts.{Accounts}
use Rattle.pce_common.specs.Owed.{is_peer}

-- how many lost requests go to askers that pass a test
abbrev pub count_lost : (Peer → Bool) → List Lost → ℕ
count_lost test ls = length (filter (λ l. test l.to) ls)

abbrev pub lost_bytes : Lost → Bytes
lost_bytes l = message_text (lost_output l).message

abbrev pub tell_all : As → List Lost → Flow → Flow
tell_all at [] f = f
tell_all at (l ∷ ls) f = tell_all at ls (put_flow at l.to (lost_bytes l) f)

pub record Tells (at : As) (ls : List Lost) (old new : Flow) : Type 0 where
  pub kept : SameFlow (tell_all at ls old) new
  pub room : Accounts old new

-- there is room for the answers
pub record RoomToTell (at : As) (ls : List Lost) (f : Flow) : Type 0 where
  pub there : (to : Peer) → Covers (room_at at to f) (count_lost (is_peer to) ls) (ANSWER_LENGTH * count_lost (is_peer to) ls)
  pub said : Covers f.room.said (length ls) (ANSWER_LENGTH * length ls)
