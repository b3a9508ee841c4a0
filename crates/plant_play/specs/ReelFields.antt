-- A reel as contracts see it, by its fields.
use Rattle.std.specs.Prelude.{◌≤◌, ◌<◌, length, slice_range}
use Rattle.plant_play.specs.Reels.{Wound}
use Rattle.plant_play.specs.declared.reel.Reel.TheInside.{Inside}
use Rattle.transcript.specs.Stops.{line_most}

abbrev pub wound_of : Inside → Wound
wound_of r = record { line = r.line.items; read = slice_range r.piece.items r.from r.to }

-- a line is not too long, the piece has room, and the places are within it
pub record IsWithin (r : Inside) : Type 0 where
  pub short : length r.line.items ≤ line_most
  pub room : 0 < length r.piece.items
  pub in_order : r.from ≤ r.to
  pub within : r.to ≤ length r.piece.items
