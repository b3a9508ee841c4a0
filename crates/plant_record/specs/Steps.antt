-- What one hand does, and one turn.
use Rattle.std.specs.Prelude.{◌≡◌, ◌≢◌, ℕ, ◌+◌, ◌≤◌, List, [], ◌++◌, length, Option, Some, Ok, Err, OnOk}
use Rattle.std.specs.declared.result.Result.{Result}
use Rattle.dom_edge.specs.Folders.{Contents}
use Rattle.plant_text.specs.declared.settings.PeerRow.{PeerRow}
use Rattle.event_tape.specs.declared.told.Told.{Told}
use Rattle.event_tape.specs.declared.tape.Handed.{Handed}
use Rattle.plant_record.specs.Parts.{Title}
use Rattle.plant_record.specs.Standing.{ScriptState, Stands}
use Rattle.plant_record.specs.Recording.{Reaches}
use Rattle.plant_record.specs.Faults.{HasReason}
use Rattle.plant_record.specs.declared.recorded.Recorded.{Recorded}
use Rattle.plant_record.specs.declared.recorded.Recorded.TheVariants.{Ended, Turns, Lost, Fault}

-- whatever was told before, the script goes on behind it with these events
abbrev pub GoesOn : {F : Type 0} → (F → Option (List ℕ)) → List PeerRow → Recorded → ScriptState F → ScriptState F → Option Contents → Option Contents → List Told → Type 0
GoesOn written peers end s u c d more = (t : Title) (before : List Told) → Stands written peers t before s c → Reaches written peers t (before ++ more) end u d

-- a hand is written where it begins at the events that were had; a fault and the tape's end have their reasons
abbrev pub IsHandTaken : {F : Type 0} → (F → ℕ) → ℕ → ℕ → Handed → ℕ → ℕ → Result (List Told) Recorded → (Recorded → List Told → Type 0) → Type 0
IsHandTaken faults before now h events later (Ok items) Then = (h.before ≡ events) × (later ≡ events + length h.items) × (before ≤ now) × Then Turns h.items
IsHandTaken faults before now h events later (Err Lost) Then = (h.before ≢ events) × (before ≤ now) × Then Lost []
IsHandTaken faults before now h events later (Err (Ended why)) Then = (h.before ≡ events) × (h.ended ≡ Some why) × (before ≤ now) × Then (Ended why) h.items
IsHandTaken faults before now h events later (Err (Fault why)) Then = (h.before ≡ events) × HasReason faults before now why × (before ≤ now) × Then (Fault why) h.items
IsHandTaken faults before now h events later (Err end) Then = ⊥

-- the end that a turn makes
abbrev pub end_of : {X : Type 0} → Result X Recorded → Recorded
end_of (Ok x) = Turns
end_of (Err end) = end

-- so many events more were counted
abbrev pub Counts : {X : Type 0} → Result X Recorded → ℕ → ℕ → List Told → Type 0
Counts result old new more = OnOk result (new ≡ old + length more)
