-- An accepted request as contracts see it, by its fields.
use Rattle.std.specs.Prelude.{◌+◌, ◌≤◌, length, vec_capacity}
use Rattle.pce_common.specs.plant_model.Parent.{Asking}
use Rattle.pce_parent.specs.Joined.{joined}
use Rattle.pce_parent.specs.declared.asking.Asking.TheInside.{Inside}

abbrev pub asking_of : Inside → Asking
asking_of a = record { flags = a.flags; wanted = a.wanted; waits = a.waits.items; rows = joined a.answers.items }

-- there is memory for each answer that is to come
abbrev pub HasPlaces : Inside → Type 0
HasPlaces a = length a.answers.items + length a.waits.items ≤ vec_capacity a.answers
