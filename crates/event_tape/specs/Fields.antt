-- A tape as contracts see it, by its fields.
use Rattle.std.specs.Prelude.{◌≡◌, ◌+◌, ◌^◌, ◌<◌, ◌≤◌, length, map}
use Rattle.event_tape.specs.Tapes.{Taped, event_of, octets_in, tape_room}
use Rattle.event_tape.specs.declared.tape.Tape.TheInside.{Inside}

abbrev pub taped_of : Inside → Taped
taped_of a = record { items = a.items.items; handed = a.handed; ended = a.ended }

-- the octets of its items are counted, and its items have numbers of 64 bits
pub record IsCounted (a : Inside) : Type 0 where
  pub octets : a.octets ≡ octets_in (map event_of a.items.items)
  pub most : a.octets ≤ tape_room
  pub numbered : a.handed + length a.items.items < 2 ^ 64
