-- The messages of a step as contracts see them, by their fields.
use Rattle.std.specs.Prelude.{◌-◌, length, vec_len}
use Rattle.std.specs.Vec.{vec_capacity}
use Rattle.plant_queues.specs.Messages.{Queued}
use Rattle.plant_queues.specs.Sents.{sents, AreInRow}
use Rattle.plant_queues.specs.declared.sent.Sent.{Sent}
use Rattle.plant_queues.specs.declared.said.Said.TheInside.{Inside}

abbrev pub said_of : Inside → Queued Sent
said_of a = record {
  kept = sents a.bytes.items a.places.items;
  spare = record { messages = vec_capacity a.places - vec_len a.places; bytes = vec_capacity a.bytes - vec_len a.bytes };
}

abbrev pub HoldsSaid : Inside → Type 0
HoldsSaid a = AreInRow 0 a.places.items (length a.bytes.items)
