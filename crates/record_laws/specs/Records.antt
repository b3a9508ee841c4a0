-- The record of a day: the files of its run, and the lines of its script.
use Rattle.std.specs.Prelude.{◌≡◌, ◌⊎◌, ℕ, ◌-◌, cond, codes, drop, length, List, [], ◌++◌, Bool, Option, Some, None}
use Rattle.std.specs.List.{AllByRecursion, flat_map}
use Rattle.std.specs.Str.{bytes_eq}
use Rattle.std.specs.Str.Lines.{strip_carriage_return}
use Rattle.dom_edge.specs.Folders.{Contents}
use Rattle.dom_edge.specs.Moments.{IsMomentText}
use Rattle.dom_edge.specs.Stores.{Files}
use Rattle.plant_text.specs.Reads.{Reads}
use Rattle.plant_text.specs.Lines.{line_in}
use Rattle.plant_text.specs.declared.line.LineEvent.{LineEvent}
use Rattle.plant_text.specs.declared.line.LineEvent.TheVariants.{CertifyOn, DiscloseOn}
use Rattle.plant_text.specs.declared.settings.NetworkParts.{NetworkParts}
use Rattle.event_tape.specs.declared.tape.TapeEnd.{TapeEnd}
use Rattle.event_tape.specs.declared.told.Told.{Told}
use Rattle.plant_record.specs.Books.{File}
use Rattle.plant_record.specs.Parts.{Title}
use Rattle.plant_record.specs.Recording.{IsPart, IsWhole, Leaves}
use Rattle.plant_record.specs.declared.recorded.Recorded.{Recorded}
use Rattle.client_laws.specs.plant_play.Cues.{file_name}
use Rattle.client_laws.specs.plant_play.Replays.{AreAllOf, AreFirstOf, HasNoEnd}

-- ---- the script of a folder

-- the names of parts end so
abbrev pub is_part : List ℕ → Bool
is_part name = bytes_eq (drop (length name - 5) name) (codes ".play")

-- the parts one behind the other, in the order in which they were closed
abbrev pub script_of : List File → List ℕ
script_of files = flat_map (λ (f : File). cond (is_part f.0) f.1 []) files

-- ---- the record of events

-- A run is called by the moment at which it began; its version is written on a line.
pub record IsTitle (n : NetworkParts) (t : Title) : Type 0 where
  pub seconds : ℕ
  pub name : IsMomentText seconds t.name
  pub version : HasNoEnd t.version
  pub settings : Reads t.settings n

-- Some first of these events stand in the files of a run of these settings.
pub record IsRecord (n : NetworkParts) (told : List Told) (c : Contents) : Type 0 where
  pub title : Title
  pub is_title : IsTitle n title
  pub part : IsPart n.peers title told (Some c)

-- Whatever ended a record, its files are such.
abbrev pub EndsAreRecords : Type 0
EndsAreRecords = (n : NetworkParts) (t : Title) → IsTitle n t → (told : List Told) (end : Recorded) (c : Contents) → Leaves n.peers t told end (Some c) → IsRecord n told c

-- All of them do, and a last line may say how the tape ended.
pub record IsWholeRecord (n : NetworkParts) (told : List Told) (c : Contents) : Type 0 where
  pub title : Title
  pub is_title : IsTitle n title
  pub ended : Option TapeEnd
  pub whole : IsWhole n.peers title told ended (Some c)

-- ---- what is played of it

-- a store has each of these files as it was closed
abbrev pub HoldsAll : Files → List File → Type 0
HoldsAll held files = AllByRecursion (λ (f : File). held f.0 ≡ Some f.1) files

-- the file of that name, where one is named, is there
abbrev pub IsThere : Files → Option (List ℕ) → Type 0
IsThere held None = Unit {0}
IsThere held (Some name) = (text : List ℕ) × (held name ≡ Some text)

-- what an event of a line names is there; a comment names nothing
abbrev pub HasAll : Files → Option LineEvent → Type 0
HasAll held None = Unit {0}
HasAll held (Some e) = IsThere held (file_name e)

-- a line has the form that lines of scripts have, and the file that it names is there
pub record IsReadable (n : NetworkParts) (held : Files) (line : List ℕ) : Type 0 where
  pub said : Option LineEvent
  pub says : line_in n (strip_carriage_return line) ≡ Some said
  pub has : HasAll held said

-- `certify on` or `disclose on`
abbrev pub ShowsMore : NetworkParts → List ℕ → Type 0
ShowsMore n line = (line_in n (strip_carriage_return line) ≡ Some (Some CertifyOn)) ⊎ (line_in n (strip_carriage_return line) ≡ Some (Some DiscloseOn))

abbrev pub AreShowing : NetworkParts → List (List ℕ) → Type 0
AreShowing n lines = AllByRecursion (ShowsMore n) lines

-- Lines of this script, where it may be said before them what is to be shown; lines have the last one first.
pub record AreLines (n : NetworkParts) (Of : Option (List ℕ) → List (List ℕ) → Type 0) (script : List ℕ) (lines : List (List ℕ)) : Type 0 where
  pub shown : List (List ℕ)
  pub shows : AreShowing n shown
  pub recorded : List (List ℕ)
  pub are : lines ≡ recorded ++ shown
  pub of : Of (Some script) recorded

-- some first lines of the script of a folder
abbrev pub AreFirstLines : NetworkParts → Contents → List (List ℕ) → Type 0
AreFirstLines n c lines = AreLines n AreFirstOf (script_of c.closed) lines

-- all of them that are whole
abbrev pub AreAllLines : NetworkParts → Contents → List (List ℕ) → Type 0
AreAllLines n c lines = AreLines n AreAllOf (script_of c.closed) lines
