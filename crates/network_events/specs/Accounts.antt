-- The room of queues, accounted for by what is said: each message reduces the room by no more than it takes.
use Rattle.std.specs.Prelude.{◌≡◌, ◌≤◌, ℕ, ◌+◌, Bool, true, false, cond, List, [], ◌∷◌, length, is_some}
use Rattle.pce_common.specs.plant_model.Types.{As, Peer, Outside, Inner, Sent}
use Rattle.request_table.specs.Pending.{same_peer}
use Rattle.plant_queues.specs.Messages.{total}
use Rattle.plant_queues.specs.Sents.{size_of}
use Rattle.plant_text.specs.Names.{same_as}
use Rattle.network_links.specs.Rooms.{Queue, queue, room_in_all}
use Rattle.network_links.specs.Flow.{Flow, queue_at, room_at}

-- the message went into this queue; an outside peer has one, whoever sends
abbrev pub goes_into : As → Peer → Sent → Bool
goes_into at (Outside i) s = same_peer s.to (Outside i)
goes_into at (Inner b) s = cond (same_peer s.to (Inner b)) (same_as s.from at) false

abbrev pub count_into : As → Peer → List Sent → ℕ
count_into at to [] = 0
count_into at to (s ∷ ss) = cond (goes_into at to s) 1 0 + count_into at to ss

abbrev pub bytes_into : As → Peer → List Sent → ℕ
bytes_into at to [] = 0
bytes_into at to (s ∷ ss) = cond (goes_into at to s) (length s.bytes) 0 + bytes_into at to ss

abbrev pub queue_in : As → Peer → Flow → Queue
queue_in at to f = queue (queue_at at to f) (room_at at to f)

-- an outside peer that is closed has none
abbrev pub has_queue : Peer → Flow → Bool
has_queue (Outside i) f = is_some (f.accesses i).connection
has_queue (Inner b) f = true

pub record Accounts (old new : Flow) : Type 0 where
  pub messages : (at : As) (to : Peer) → (room_at at to old).messages + count_into at to old.said ≤ (room_at at to new).messages + count_into at to new.said
  pub bytes : (at : As) (to : Peer) → (room_at at to old).bytes + bytes_into at to old.said ≤ (room_at at to new).bytes + bytes_into at to new.said
  pub there : (to : Peer) → has_queue to old ≡ true → has_queue to new ≡ true
  pub messages_in_all : (at : As) (to : Peer) → has_queue to old ≡ true → (room_in_all (queue_in at to old)).messages ≤ (room_in_all (queue_in at to new)).messages
  pub bytes_in_all : (at : As) (to : Peer) → has_queue to old ≡ true → (room_in_all (queue_in at to old)).bytes ≤ (room_in_all (queue_in at to new)).bytes
  pub said : old.room.said.messages + length old.said ≤ new.room.said.messages + length new.said
  pub said_bytes : old.room.said.bytes + total size_of old.said ≤ new.room.said.bytes + total size_of new.said
