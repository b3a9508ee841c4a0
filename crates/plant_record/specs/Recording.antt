-- A record: which events stand in its files, and why it ends.
use Rattle.std.specs.Prelude.{◌≡◌, ◌≢◌, ◌⊎◌, ℕ, ◌+◌, ◌≤◌, List, [], ◌∷◌, ◌++◌, length, Option, Some, None}
use Rattle.dom_edge.specs.Folders.{Contents}
use Rattle.dom_edge.specs.Moments.{IsMomentText}
use Rattle.plant_text.specs.declared.settings.PeerRow.{PeerRow}
use Rattle.event_tape.specs.declared.told.Told.{Told}
use Rattle.event_tape.specs.declared.tape.Handed.{Handed}
use Rattle.event_tape.specs.declared.tape.TapeEnd.{TapeEnd}
use Rattle.plant_record.specs.Parts.{Title, topologies, part_text, part_name, tail_by}
use Rattle.plant_record.specs.Books.{BeginsWith, Deed, File, IsBook, IsPage, files, kept, next_part, part_count, told_in}
use Rattle.plant_record.specs.Standing.{Breaks, IsCut, ScriptState, Stands}
use Rattle.plant_record.specs.Faults.{HasReason}
use Rattle.event_tape.specs.Hands.{AreWhole, told_of}
use Rattle.plant_record.specs.Hands.{Hands}
use Rattle.plant_record.specs.declared.fault.Fault.{Fault as WhyFault}
use Rattle.plant_record.specs.declared.recorded.Recorded.{Recorded}
use Rattle.plant_record.specs.declared.recorded.Recorded.TheVariants.{Ended, Turns, Spent, Lost, Fault}

-- ---- the beginning

-- a run that begins is called by its moment, and its first part is open
pub record Begins {F : Type 0} (written : F → Option (List ℕ)) (peers : List PeerRow) (seconds : ℕ) (settings version : List ℕ) (s : ScriptState F) (c : Option Contents) : Type 0 where
  pub title : Title
  pub name_is : IsMomentText seconds title.name
  pub version_is : title.version ≡ version
  pub settings_are : title.settings ≡ settings
  pub stands : Stands written peers title [] s c

-- ---- the end

-- All events are told, the last of them in a last part, which ends so.
pub record IsWhole (peers : List PeerRow) (t : Title) (told : List Told) (ended : Option TapeEnd) (c : Option Contents) : Type 0 where
  pub book : List Deed
  pub sound : IsBook book
  pub moment : List ℕ
  pub events : List Told
  pub page : IsPage moment events
  pub all : told ≡ told_in book ++ events
  pub topologies_are : kept book ≡ topologies told
  pub contents : Contents
  pub is : c ≡ Some contents
  pub closed : contents.closed ≡ files peers t book ++ (part_name (part_count book + 1), part_text peers t (next_part book moment events) ++ tail_by ended) ∷ []

-- the last file, if one was closed behind those of the book: a part that is cut off
abbrev pub IsLast : List PeerRow → Title → List Told → List Deed → List File → Type 0
IsLast peers t told book [] = BeginsWith told (told_in book)
IsLast peers t told book (f ∷ []) = (f.0 ≡ part_name (part_count book + 1)) × IsCut peers t told book f.1
IsLast peers t told book (f ∷ g ∷ fs) = ⊥

-- Some first of the events are told.
pub record IsPart (peers : List PeerRow) (t : Title) (told : List Told) (c : Option Contents) : Type 0 where
  pub book : List Deed
  pub sound : IsBook book
  pub last : List File
  pub is_last : IsLast peers t told book last
  pub contents : Contents
  pub is : c ≡ Some contents
  pub closed : contents.closed ≡ files peers t book ++ last

-- the files at an end
abbrev pub Leaves : List PeerRow → Title → List Told → Recorded → Option Contents → Type 0
Leaves peers t told (Ended why) c = IsWhole peers t told (Some why) c
Leaves peers t told (Fault fault) c = IsPart peers t told c
Leaves peers t told end c = IsWhole peers t told None c

-- where the script stands before its files are closed
abbrev pub Reaches : {F : Type 0} → (F → Option (List ℕ)) → List PeerRow → Title → List Told → Recorded → ScriptState F → Option Contents → Type 0
Reaches written peers t told (Fault fault) s c = Breaks written peers t told s c
Reaches written peers t told end s c = Stands written peers t told s c

-- ---- the hands

-- the last hand says how the tape ended
abbrev pub TellsEnd : List Handed → TapeEnd → Type 0
TellsEnd hands why = (front : List Handed) × (last : Handed) × (hands ≡ front ++ last ∷ []) × (last.ended ≡ Some why)

-- one hand that does not begin where those before it ended: so many events were had
abbrev pub IsStray : ℕ → List Handed → Type 0
IsStray had hands = (h : Handed) × (hands ≡ h ∷ []) × (h.before ≢ had)

-- what was handed, with the events that were had before
pub record Had : Type 0 where
  pub events : ℕ
  pub hands : List Handed
  pub stray : List Handed
  pub spent : Option ℕ

-- why it ends: the tape did, all turns were made, the desk was spent, a hand is no next one, or there was a fault
abbrev pub HasCause : {F : Type 0} → (F → ℕ) → ℕ → ℕ → ℕ → Had → Recorded → Type 0
HasCause faults before now turns x (Ended why) = (x.stray ≡ []) × TellsEnd x.hands why
HasCause faults before now turns x Turns = (x.stray ≡ []) × (length x.hands ≡ turns)
HasCause faults before now turns x (Spent t) = (x.stray ≡ []) × (x.spent ≡ Some t)
HasCause faults before now turns x Lost = IsStray (x.events + length (told_of x.hands)) x.stray
HasCause faults before now turns x (Fault fault) = HasReason faults before now fault

-- The hands behind those before, each beginning where the one before ended, but for one at the end that is not told; and what comes of their events.
pub record Records {F : Type 0} (faults : F → ℕ) (before now turns events : ℕ) (end : Recorded) (old new : Hands) (Then : List Told → Type 0) : Type 0 where
  pub hands : List Handed
  pub stray : List Handed
  pub handed : new.hands ≡ old.hands ++ (hands ++ stray)
  pub are_whole : AreWhole events hands
  pub later : before ≤ now
  pub cause : HasCause faults before now turns (record { events = events; hands = hands; stray = stray; spent = new.spent }) end
  pub comes : Then (told_of hands)

-- ---- the last part is closed

-- the same end, or a fault with its reason
abbrev pub IsEndBy : {F : Type 0} → (F → ℕ) → ℕ → ℕ → Recorded → Recorded → Type 0
IsEndBy faults before now end result = (before ≤ now) × ((result ≡ end) ⊎ ((why : WhyFault) × (result ≡ Fault why) × HasReason faults before now why))

-- the same end with all events, or a fault with some first of them
abbrev pub Concludes : List PeerRow → Title → List Told → Option TapeEnd → Recorded → Recorded → Option Contents → Type 0
Concludes peers t told ended end result c = ((result ≡ end) × IsWhole peers t told ended c) ⊎ ((why : WhyFault) × (result ≡ Fault why) × IsPart peers t told c)
