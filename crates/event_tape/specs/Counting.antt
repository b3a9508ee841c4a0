-- The octets of a tape with one more item.
use Rattle.std.specs.Prelude.{◌≡◌, ◌+◌, ℕ, true, false, map, Option, Some, None}
use Rattle.plant_model.specs.declared.event.Event.{Event}
use Rattle.event_tape.specs.Tapes.{Taped, event_of, fits, octets_in, octets_of}

abbrev pub IsRoom : Option ℕ → Taped → Event → Type 0
IsRoom None t e = fits t e ≡ false
IsRoom (Some octets) t e = (fits t e ≡ true) × (octets ≡ octets_in (map event_of t.items) + octets_of e)
