-- A record that a server writes: what its desk handed out, and what became of that.
use Rattle.std.specs.Prelude.{◌≡◌, ◌⊎◌, ◌++◌, ◌∷◌, ◌^◌, ◌-◌, [], ℕ, Bool, true, false, List, Option, Some, None}
use Rattle.dom_base.specs.declared.names.As.{As}
use Rattle.dom_edge.specs.Causes.{Rose}
use Rattle.dom_edge.specs.Folders.{Contents}
use Rattle.event_tape.specs.Tapes.{Taped, empty_tape, event_of}
use Rattle.event_tape.specs.declared.tape.TapeEnd.TheVariants.{Stopped}
use Rattle.event_tape.specs.declared.told.Told.{Told}
use Rattle.plant_network.specs.plant_model.declared.event.Event.TheVariants.{Load}
use Rattle.plant_network.specs.Topologies.{whole}
use Rattle.plant_network.specs.Whole.{Whole}
use Rattle.kept_plant.specs.Handing.{hands_in}
use Rattle.kept_plant.specs.declared.acts.KeptAct.{KeptAct}
use Rattle.kept_plant.specs.declared.acts.KeptAct.TheVariants.{Stop}
use Rattle.kept_plant.specs.declared.acts.KeptAnswer.{KeptAnswer}
use Rattle.kept_plant.specs.declared.acts.KeptAnswer.TheVariants.{Stopped as StoppedSo}
use Rattle.kept_plant.specs.declared.kept.KeptPlant.{KeptPlant}
use Rattle.plant_record.specs.Hands.{Hands}
use Rattle.plant_record.specs.Parts.{Title}
use Rattle.plant_record.specs.Recording.{Leaves, Records}
use Rattle.plant_record.specs.Standing.{Stands}
use Rattle.plant_record.specs.declared.recorded.Recorded.{Recorded}
use Rattle.plant_record.specs.declared.recorded.Recorded.TheVariants.{Ended}
use Rattle.plant_text.specs.declared.settings.ElementRow.{ElementRow}
use Rattle.plant_text.specs.declared.settings.NetworkParts.{NetworkParts}
use Rattle.turn_desk.specs.Desks.{stand_of}
use Rattle.turn_desk.specs.Seats.{Seated, seat_of}
use Rattle.network_serving.specs.Bases.{Base, Desk}
use Rattle.network_serving.specs.declared.recorder.Recorder.{Recorder}
use Rattle.network_serving.specs.declared.recorder.Written.{Written}
use Rattle.network_serving.specs.declared.recording.Recording.{Recording}
use Rattle.network_serving.specs.declared.served.Served.{Served}
use Rattle.network_serving.specs.declared.served.Served.TheVariants as served

-- ---- whether one is asked for

abbrev pub is_asked : {A : Type 0} → Option A → Bool
is_asked (Some x) = true
is_asked None = false

-- how often its folder has failed, where one is asked for
abbrev pub faults_in : {F G M E : Type 0} → (G → ℕ) → Option (Recording G M E F) → ℕ
faults_in faults (Some r) = faults r.folder
faults_in faults None = 0

-- a call of the folder failed, or a write to a file
abbrev pub HasFault : {F : Type 0} → (F → ℕ) → ℕ → ℕ → Type 0
HasFault {F} faults before now = Rose before now ⊎ ((old : F) × (new : F) × Rose (faults old) (faults new))

-- it could not be begun, for that reason, or memory ran out
abbrev pub IsNoRecord : Type 0 → Served → Type 0
IsNoRecord Reason (served.NoRecord name) = Reason
IsNoRecord Reason served.NoMemory = Unit {0}
IsNoRecord Reason s = ⊥

-- ---- its first events

-- the load of an element's topology, where its row names one
abbrev pub IsFirst : Whole → As → Option (List ℕ) → List Told → Type 0
IsFirst w at None items = items ≡ []
IsFirst w at (Some name) items = (x : Told) × (items ≡ x ∷ []) × (event_of x ≡ Load at (w.state.current at).topology)

-- those of these elements, in their order
abbrev pub AreFirst : Whole → List ElementRow → List Told → Type 0
AreFirst w [] items = items ≡ []
AreFirst w (row ∷ rows) items = (first : List Told) × (later : List Told) × (items ≡ first ++ later) × IsFirst w row.own row.topology first × AreFirst w rows later

-- the tape with which a lock is opened: it holds the loads that were made before, where a record is asked for, and else it is off
abbrev pub IsTapeOf : Bool → NetworkParts → Whole → Taped → Type 0
IsTapeOf false n w tape = tape ≡ empty_tape (Some Stopped)
IsTapeOf true n w tape = AreFirst w n.elements tape.items × (tape.handed ≡ 0) × (tape.ended ≡ None)

-- one more of them stands on a tape
abbrev pub IsPushedFirst : Whole → ElementRow → Taped → Taped → Type 0
IsPushedFirst w row old new = (first : List Told) × IsFirst w row.own row.topology first × (new ≡ record old { items = old.items ++ first })

-- a lock was opened round a network with its tape, and the desk knows of no turn at it
abbrev pub HasTapeOf : Bool → NetworkParts → Option KeptPlant → Type 0
HasTapeOf recorded n (Some kept) = IsTapeOf recorded n (whole kept.plant) kept.tape
HasTapeOf recorded n None = ⊥

abbrev pub IsTapedSo : Bool → NetworkParts → Seated → Type 0
IsTapedSo recorded n s = HasTapeOf recorded n s.start × (s.seen ≡ []) × (s.own ≡ [])

-- ---- what was handed out

-- by the own entries of a seat
abbrev pub hands_at : Seated → Hands
hands_at s = record { hands = hands_in s.own; spent = s.spent }

-- what it stands on, where there is one
abbrev pub desks_in : {F G M E R : Type 0} → Option (Recorder G M E R F) → List Base
desks_in None = []
desks_in (Some x) = Desk (stand_of x.seat.desk) ∷ []

-- ---- what was written

-- The tape takes nothing more: it had ended by itself, or the last that was done at the seat was to end it, or the desk is spent.
abbrev pub IsLeft : Recorded → Seated → Type 0
IsLeft (Ended why) s = Unit {0}
IsLeft end s = ((front : List (KeptAct × KeptAnswer)) × (s.own ≡ front ++ (Stop, StoppedSo) ∷ [])) ⊎ ((number : ℕ) × (s.spent ≡ Some number))

-- What was handed out in these turns stands in the files, behind what stood there, as a record says it; and the tape takes nothing more.
abbrev pub Writes : {F G M E R : Type 0} → (F → ℕ) → (G → ℕ) → (F → Option (List ℕ)) → (G → Option Contents) → ℕ → Recorder G M E R F → Written G R F → Type 0
Writes {F} {G} {M} {E} {R} file_faults faults written contents turns x y =
    Records file_faults (faults x.folder) (faults y.folder) turns x.script.events y.end (hands_at (seat_of x.seat.desk)) (hands_at (seat_of y.seat.desk))
    (λ (more : List Told). (t : Title) (before : List Told) → Stands written x.network.peers t before x.script (contents x.folder) → Leaves x.network.peers t (before ++ more) y.end (contents y.folder))
    × IsLeft y.end (seat_of y.seat.desk)

-- the same in all turns that a number of 64 bits counts
abbrev pub WasWritten : {F G M E R : Type 0} → (F → ℕ) → (G → ℕ) → (F → Option (List ℕ)) → (G → Option Contents) → Recorder G M E R F → Written G R F → Type 0
WasWritten file_faults faults written contents x y = Writes file_faults faults written contents (2 ^ 64 - 1) x y
