-- A queue as contracts see it, by its fields.
use Rattle.std.specs.Prelude.{◌≡◌, ◌≤◌, ℕ, ◌+◌, ◌-◌, ◌/◌, List, length, drop, sum, vec_len}
use Rattle.std.specs.Vec.{vec_capacity}
use Rattle.std.specs.VecDeque.{deque_capacity, deque_len}
use Rattle.plant_queues.specs.Messages.{Queued, pieces}
use Rattle.plant_queues.specs.declared.queue.Queue.TheInside.{Inside}

-- the bytes that are in use; those in front of them have left
abbrev pub used_of : Inside → ℕ
used_of a = vec_len a.bytes - a.head

-- Half of the memory is for messages, so what is in use is moved only after as many bytes have left.
abbrev pub queued_of : Inside → Queued (List ℕ)
queued_of a = record {
  kept = pieces a.lengths.items (drop a.head a.bytes.items);
  spare = record {
    messages = deque_capacity a.lengths - deque_len a.lengths;
    bytes = vec_capacity a.bytes / 2 - used_of a;
  };
}

pub record HoldsQueue (a : Inside) : Type 0 where
  pub all : a.head + sum a.lengths.items ≡ length a.bytes.items
  pub half : used_of a ≤ vec_capacity a.bytes / 2
