-- The parts of a script that is recorded, and their texts.
use Rattle.std.specs.Prelude.{ℕ, ◌+◌, ◌-◌, List, [], ◌∷◌, ◌++◌, length, replicate, codes, decimal, Option, Some, None}
use Rattle.std.specs.Arc.{arc_value}
use Rattle.te_links.specs.Rows.{Rows}
use Rattle.plant_text.specs.declared.settings.PeerRow.{PeerRow}
use Rattle.event_tape.specs.declared.told.Told.{Told}
use Rattle.event_tape.specs.declared.told.Told.TheVariants.{Load, Tick}
use Rattle.event_tape.specs.declared.tape.TapeEnd.{TapeEnd}
use Rattle.event_tape.specs.declared.tape.TapeEnd.TheVariants.{Behind, NoMemory, Stopped}
use Rattle.event_lines.specs.EventLines.{event_line}

-- ---- what events tell

-- the topology that an event loads
abbrev pub loaded_by : Told → List Rows
loaded_by (Load d g) = arc_value g ∷ []
loaded_by _ = []

-- the topologies that events load, in order
abbrev pub topologies : List Told → List Rows
topologies [] = []
topologies (e ∷ es) = loaded_by e ++ topologies es

-- how many loads there are among events
abbrev pub load_count : List Told → ℕ
load_count es = length (topologies es)

-- the moment behind an event, where it was this one before
abbrev pub tick_after : ℕ → Told → ℕ
tick_after t (Tick u) = u.0
tick_after t _ = t

-- the last moment that events tell, behind this one
abbrev pub last_tick : ℕ → List Told → ℕ
last_tick t [] = t
last_tick t (e ∷ es) = last_tick (tick_after t e) es

-- the lines of events that come behind others
abbrev pub lines_behind : List PeerRow → List Told → List Told → List ℕ
lines_behind peers before [] = []
lines_behind peers before (e ∷ es) = event_line peers (load_count (before ++ e ∷ [])) e ++ lines_behind peers (before ++ e ∷ []) es

-- ---- parts

-- what a run is called, which version of the program writes it, and the octets of its settings
pub record Title : Type 0 where
  pub name : List ℕ
  pub version : List ℕ
  pub settings : List ℕ

-- a part: its number, what was told before it, the moment at which it begins, and its events
pub record Part : Type 0 where
  pub number : ℕ
  pub before : List Told
  pub moment : List ℕ
  pub events : List Told

-- `# record RUN part K tick T event E at MOMENT by VERSION`
abbrev pub head_line : Title → Part → List ℕ
head_line t p =
    codes "# record " ++ t.name
    ++ codes " part " ++ decimal p.number
    ++ codes " tick " ++ decimal (last_tick 0 p.before)
    ++ codes " event " ++ decimal (length p.before + 1)
    ++ codes " at " ++ p.moment
    ++ codes " by " ++ t.version ++ 10 ∷ []

-- its comment, and the lines of its events
abbrev pub part_text : List PeerRow → Title → Part → List ℕ
part_text peers t p = head_line t p ++ lines_behind peers p.before p.events

-- at least six digits, and `.play`
abbrev pub part_name : ℕ → List ℕ
part_name k = replicate (6 - length (decimal k)) 48 ++ (decimal k ++ codes ".play")

abbrev pub settings_name : List ℕ
settings_name = codes "net.toml"

-- why a tape ended
abbrev pub reason : TapeEnd → List ℕ
reason Behind = codes "fell behind"
reason NoMemory = codes "no memory"
reason Stopped = codes "stop"

-- `# end of record: WHY`
abbrev pub end_line : TapeEnd → List ℕ
end_line why = codes "# end of record: " ++ reason why ++ 10 ∷ []

-- what stands behind the lines of the last part: its last line, where the tape ended
abbrev pub tail_by : Option TapeEnd → List ℕ
tail_by None = []
tail_by (Some why) = end_line why
