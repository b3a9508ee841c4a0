-- A lock that was opened with a tape.
use Rattle.std.specs.Prelude.{◌≡◌, [], Option, Some, None}
use Rattle.event_tape.specs.Tapes.{Taped}
use Rattle.kept_plant.specs.declared.kept.KeptPlant.{KeptPlant}
use Rattle.turn_desk.specs.Seats.{Seated}

abbrev pub HasTape : Taped → Option KeptPlant → Type 0
HasTape tape (Some kept) = kept.tape ≡ tape
HasTape tape None = ⊥

-- a lock was opened round a network with that tape, and the desk knows of no turn at it
abbrev pub IsOpenedSo : Taped → Seated → Type 0
IsOpenedSo tape s = HasTape tape s.start × (s.seen ≡ []) × (s.own ≡ []) × (s.spent ≡ None)
