-- Where a record stands between two events, and behind a fault.
use Rattle.std.specs.Prelude.{◌≡◌, ◌⊎◌, ℕ, ◌+◌, List, [], ◌++◌, length, Option, Some, None, MatchResult, is_ok, false}
use Rattle.std.specs.declared.result.Result.{Result}
use Rattle.std.specs.Io.KnownBytes.{Appends}
use Rattle.dom_edge.specs.Folders.{Contents, Closes}
use Rattle.dom_edge.specs.Whole.{AppendsSome}
use Rattle.dom_edge.specs.declared.folder.FolderError.{FolderError}
use Rattle.plant_text.specs.declared.settings.PeerRow.{PeerRow}
use Rattle.event_tape.specs.declared.told.Told.{Told}
use Rattle.event_tape.specs.declared.tape.TapeEnd.{TapeEnd}
use Rattle.plant_record.specs.Parts.{Title, part_name, topologies, load_count, last_tick, part_text, tail_by}
use Rattle.plant_record.specs.Books.{BeginsWith, Deed, IsBook, IsPage, files, kept, next_part, part_count, told_in}
use Rattle.plant_record.specs.declared.fault.Fault.{Fault}

-- a script that is written: the file of the part that is open, if one is, its number, what still waits to be written to it, what was counted, and its title
pub record ScriptState (F : Type 0) : Type 0 where
  pub file : Option F
  pub number : ℕ
  pub pending : List ℕ
  pub loads : ℕ
  pub events : ℕ
  pub tick : ℕ
  pub name : List ℕ
  pub version : List ℕ

-- what was written to the part that is open
abbrev pub written_in : {F : Type 0} → (F → Option (List ℕ)) → Option F → Option (List ℕ)
written_in written None = None
written_in written (Some file) = written file

-- the files of this book stand in the folder
pub record IsKept (peers : List PeerRow) (t : Title) (book : List Deed) (c : Option Contents) : Type 0 where
  pub sound : IsBook book
  pub contents : Contents
  pub is : c ≡ Some contents
  pub closed : contents.closed ≡ files peers t book

-- what a script counts: so many parts, and these events
pub record HasCounted {F : Type 0} (t : Title) (number : ℕ) (told : List Told) (s : ScriptState F) : Type 0 where
  pub number_is : s.number ≡ number
  pub loads_are : s.loads ≡ load_count told
  pub events_are : s.events ≡ length told
  pub tick_is : s.tick ≡ last_tick 0 told
  pub name_is : s.name ≡ t.name
  pub version_is : s.version ≡ t.version

-- No part is open: all that was told stands in the parts of the book.
pub record IsBetween {F : Type 0} (peers : List PeerRow) (t : Title) (told : List Told) (s : ScriptState F) (c : Option Contents) : Type 0 where
  pub book : List Deed
  pub is_kept : IsKept peers t book c
  pub topologies_are : kept book ≡ topologies told
  pub is : told ≡ told_in book
  pub none : s.file ≡ None
  pub counted : HasCounted t (part_count book) told s

-- A part is open: what was written to it and what waits are its text, and what was told are the events of the book and its own.
pub record Stands {F : Type 0} (written : F → Option (List ℕ)) (peers : List PeerRow) (t : Title) (told : List Told) (s : ScriptState F) (c : Option Contents) : Type 0 where
  pub book : List Deed
  pub moment : List ℕ
  pub events : List Told
  pub is_kept : IsKept peers t book c
  pub page : IsPage moment events
  pub topologies_are : kept book ≡ topologies told
  pub is : told ≡ told_in book ++ events
  pub counted : HasCounted t (part_count book + 1) told s
  pub bytes : List ℕ
  pub written_is : written_in written s.file ≡ Some bytes
  pub text : bytes ++ s.pending ≡ part_text peers t (next_part book moment events)

-- Some first of these events are told, the last of them in a part that is cut off somewhere, behind its last line at the latest.
pub record IsCut (peers : List PeerRow) (t : Title) (told : List Told) (book : List Deed) (bytes : List ℕ) : Type 0 where
  pub moment : List ℕ
  pub events : List Told
  pub page : IsPage moment events
  pub first : BeginsWith told (told_in book ++ events)
  pub topologies_are : BeginsWith (kept book) (topologies (told_in book ++ events))
  pub ended : Option TapeEnd
  pub begins : BeginsWith (part_text peers t (next_part book moment events) ++ tail_by ended) bytes

-- behind a fault: no part is open, or one that is cut off
abbrev pub HasPart : {F : Type 0} → (F → Option (List ℕ)) → List PeerRow → Title → List Told → List Deed → Option F → ℕ → Type 0
HasPart written peers t told book None number = BeginsWith told (told_in book)
HasPart written peers t told book (Some file) number = (bytes : List ℕ) × (written file ≡ Some bytes) × (number ≡ part_count book + 1) × IsCut peers t told book bytes

pub record Breaks {F : Type 0} (written : F → Option (List ℕ)) (peers : List PeerRow) (t : Title) (told : List Told) (s : ScriptState F) (c : Option Contents) : Type 0 where
  pub book : List Deed
  pub is_kept : IsKept peers t book c
  pub has_part : HasPart written peers t told book s.file s.number

-- it goes on, or broke off
abbrev pub After : {F : Type 0} → (F → Option (List ℕ)) → List PeerRow → Title → List Told → Result (Unit {0}) Fault → ScriptState F → Option Contents → Type 0
After written peers t told result s c = MatchResult result (λ _. Stands written peers t told s c) (λ _. Breaks written peers t told s c)

-- ---- the part that is open

-- what waited was written, and nothing else is changed
pub record IsFlushed {F : Type 0} (written : F → Option (List ℕ)) (old new : ScriptState F) : Type 0 where
  pub added : Appends (written_in written old.file) (written_in written new.file) old.pending
  pub others : new ≡ record old { file = new.file; pending = [] }

-- some first part of it was written
pub record IsCutOff {F : Type 0} (written : F → Option (List ℕ)) (old new : ScriptState F) : Type 0 where
  pub some : AppendsSome (written_in written old.file) (written_in written new.file) old.pending
  pub others : new ≡ record old { file = new.file }

-- the file that is open, if one is, is closed under the name of its part
abbrev pub ClosesFile : {F : Type 0} → (F → Option (List ℕ)) → Option F → ℕ → Result (Unit {0}) FolderError → Option Contents → Option Contents → Type 0
ClosesFile written None number result c d = d ≡ c
ClosesFile written (Some file) number result c d = Closes c d (part_name number) (written file) result

-- then none is open; or it stays as it was
abbrev pub ClosesPart : {F : Type 0} → (F → Option (List ℕ)) → Result (Unit {0}) Fault → ScriptState F → ScriptState F → Option Contents → Option Contents → Type 0
ClosesPart written result old new c d =
    ((answer : Result (Unit {0}) FolderError) × (is_ok answer ≡ is_ok result) × ClosesFile written old.file old.number answer c d × (new ≡ record old { file = None }))
    ⊎ ((is_ok result ≡ false) × (d ≡ c) × (new ≡ old))
