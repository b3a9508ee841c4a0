-- A link that breaks, and the room that this needs.
use Rattle.std.specs.Prelude.{ℕ, ◌+◌, ◌*◌, List, length}
use Rattle.pce_common.specs.plant_model.Types.{As, Outside, Inner}
use Rattle.plant_queues.specs.Messages.{Covers}
use Rattle.pce_common.specs.plant_model.declared.output.Lost.{Lost}
use Rattle.network_links.specs.declared.TheConstants.{ANSWER_LENGTH, OWN_LENGTH}
use Rattle.network_links.specs.Rooms.{room_in_all}
use Rattle.network_links.specs.Flow.{Flow}
use Rattle.network_events.specs.Accounts.{queue_in}
use Rattle.pce_common.specs.Owed.{is_peer}
use Rattle.network_events.specs.Telling.{RoomToTell, count_lost}

-- Room for the answers of what is lost at the lower end and then at the upper, and for an Open in each queue once it is emptied.
pub record RoomToBreak (lower upper : As) (below above : List Lost) (f : Flow) : Type 0 where
  pub first : RoomToTell lower below f
  pub inner : (b : As) → Covers (f.room.inner upper b) (count_lost (is_peer (Inner b)) above) (ANSWER_LENGTH * count_lost (is_peer (Inner b)) above)
  pub outside : (i : ℕ) → Covers (f.room.outside i) (count_lost (is_peer (Outside i)) below + count_lost (is_peer (Outside i)) above)
      (ANSWER_LENGTH * count_lost (is_peer (Outside i)) below + ANSWER_LENGTH * count_lost (is_peer (Outside i)) above)
  pub said : Covers f.room.said (length below + length above + 2) (ANSWER_LENGTH * length below + ANSWER_LENGTH * length above + OWN_LENGTH + OWN_LENGTH)
  pub lower_open : Covers (room_in_all (queue_in lower (Inner upper) f)) 1 OWN_LENGTH
  pub upper_open : Covers (room_in_all (queue_in upper (Inner lower) f)) 1 OWN_LENGTH
