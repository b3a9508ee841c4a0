-- The book of a record: what was closed in the folder of a run, one file behind the other.
use Rattle.std.specs.Prelude.{◌≡◌, ℕ, ◌+◌, ◌<◌, ◌^◌, List, [], ◌∷◌, ◌++◌, length, Option, Some, None}
use Rattle.std.specs.List.{AllByRecursion}
use Rattle.dom_edge.specs.Folders.{Contents}
use Rattle.dom_edge.specs.Moments.{IsMomentText}
use Rattle.te_links.specs.Rows.{IsInOrder, Rows}
use Rattle.te_text.specs.Reads.{Reads}
use Rattle.te_text.specs.TopologyText.{topology_text}
use Rattle.plant_text.specs.declared.settings.PeerRow.{PeerRow}
use Rattle.event_tape.specs.declared.told.Told.{Told}
use Rattle.event_lines.specs.EventLines.{IsInRange, load_name}
use Rattle.plant_record.specs.Parts.{Title, Part, topologies, part_text, part_name, settings_name}

abbrev pub BeginsWith : {A : Type 0} → List A → List A → Type 0
BeginsWith {A} whole part = (rest : List A) × (whole ≡ part ++ rest)

-- a file with its name
abbrev pub File : Type 0
File = List ℕ × List ℕ

-- What was closed: the topology of a load, or a part that began at a moment, with its events.
pub data Deed : Type 0 where
  Topology : Rows → Deed
  Script : (moment : List ℕ) → (events : List Told) → Deed

-- Books have their last deed first.

-- the topologies that were closed
abbrev pub kept : List Deed → List Rows
kept [] = []
kept (Topology g ∷ book) = kept book ++ g ∷ []
kept (Script moment events ∷ book) = kept book

-- the events of the parts that were closed
abbrev pub told_in : List Deed → List Told
told_in [] = []
told_in (Topology g ∷ book) = told_in book
told_in (Script moment events ∷ book) = told_in book ++ events

-- how many parts were closed
abbrev pub part_count : List Deed → ℕ
part_count [] = 0
part_count (Topology g ∷ book) = part_count book
part_count (Script moment events ∷ book) = part_count book + 1

-- the part that comes next
abbrev pub next_part : List Deed → List ℕ → List Told → Part
next_part book moment events = record { number = part_count book + 1; before = told_in book; moment = moment; events = events }

-- in order no other topology is read from the text of this one
abbrev pub IsReadAgain : Rows → Type 0
IsReadAgain g = (u : Rows) → IsInOrder u → Reads (topology_text g) u → u ≡ g

-- the load of this number: its text says which topology it was, and the number is one of 64 bits
abbrev pub IsLoad : ℕ → Rows → Type 0
IsLoad k g = IsReadAgain g × (k < 2 ^ 64)

-- a part begins at a moment, and what its events say is within their types
pub record IsPage (moment : List ℕ) (events : List Told) : Type 0 where
  pub seconds : ℕ
  pub at : IsMomentText seconds moment
  pub in_range : AllByRecursion IsInRange events

-- each topology that the lines of a part name was closed before the part
abbrev pub IsBook : List Deed → Type 0
IsBook [] = Unit {0}
IsBook (Topology g ∷ book) = IsBook book × IsLoad (length (kept book) + 1) g
IsBook (Script moment events ∷ book) = IsBook book × BeginsWith (kept book) (topologies (told_in book ++ events)) × IsPage moment events

-- the files, in the order in which they were closed: the settings, and those of the book
abbrev pub files : List PeerRow → Title → List Deed → List File
files peers t [] = (settings_name, t.settings) ∷ []
files peers t (Topology g ∷ book) = files peers t book ++ (load_name (length (kept book) + 1), topology_text g) ∷ []
files peers t (Script moment events ∷ book) = files peers t book ++ (part_name (part_count book + 1), part_text peers t (next_part book moment events)) ∷ []

-- the files of topologies that are loaded behind so many others
abbrev pub load_files : ℕ → List Rows → List File
load_files k [] = []
load_files k (g ∷ gs) = (load_name (k + 1), topology_text g) ∷ load_files (k + 1) gs

-- topologies that are loaded behind so many others
abbrev pub AreLoads : ℕ → List Rows → Type 0
AreLoads k [] = Unit {0}
AreLoads k (g ∷ gs) = IsLoad (k + 1) g × AreLoads (k + 1) gs

-- nothing but these files was closed behind those before
abbrev pub Adds : Option Contents → Option Contents → List File → Type 0
Adds None new more = Unit {0}
Adds (Some old) new more = (now : Contents) × (new ≡ Some now) × (now.closed ≡ old.closed ++ more)
