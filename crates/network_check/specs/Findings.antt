-- What is told of a network's files: of its settings first, then of each topology that they name.
use Rattle.std.specs.Prelude.{◌≡◌, ◌||◌, ◌<◌, ◌≤◌, ◌^◌, ℕ, Bool, true, false, List, [], ◌∷◌, ◌++◌, length, codes, Option}
use Rattle.std.specs.List.{list_any}
use Rattle.std.specs.Str.Lines.{lines}
use Rattle.toml.specs.Data.{Members}
use Rattle.toml.specs.View.{table_view}
use Rattle.dom_edge.specs.Stores.{Files}
use Rattle.plant_text.specs.declared.fault.NetFault.{NetFault}
use Rattle.plant_text.specs.declared.settings.ElementRow.{ElementRow}
use Rattle.network_check.specs.declared.looks.Seen.{Seen}
use Rattle.network_check.specs.declared.looks.Settings.{Settings}
use Rattle.network_check.specs.declared.looks.Settings.TheVariants as settings
use Rattle.network_check.specs.declared.findings.Findings.{Findings}
use Rattle.network_check.specs.declared.findings.Report.{Report}
use Rattle.network_check.specs.Compare.{is_refused, topologies_text}
use Rattle.network_check.specs.Clashes.{broken, clashes_text}
use Rattle.network_check.specs.Faulty.{settings_fault, tables_text}
use Rattle.network_check.specs.Looks.{AreSeen, IsSettings}
use Rattle.network_check.specs.Told.{joined, told}
use Rattle.network_check.specs.Warnings.{settings_warnings}

-- the elements of settings that obey the rules; of others none are known
abbrev pub rows_of : Settings → List ElementRow
rows_of (settings.Sound text n) = n.elements
rows_of other = []

abbrev pub is_faulty : Settings → Bool
is_faulty (settings.Sound text n) = false
is_faulty (settings.Faulty text root fault) = true
is_faulty (settings.NoDocument line) = true
is_faulty settings.Unread = true
is_faulty settings.TooLong = true

-- a text has fewer lines than a number of a line can say
abbrev pub IsShortText : Settings → Type 0
IsShortText (settings.Sound text n) = length (lines text) < 2 ^ 32
IsShortText (settings.Faulty text root fault) = length (lines text) < 2 ^ 32
IsShortText other = Unit {0}

-- the first rule that is broken, as each command tells it; then the keys of all rows; and each other rule about rows beside one another
abbrev pub faulty_text : List ℕ → List ℕ → NetFault → Members → List ℕ
faulty_text file text first root = settings_fault file text root first ++ (tables_text file text root ++ clashes_text (broken file text root first))

abbrev pub settings_text : List ℕ → Settings → List ℕ
settings_text net (settings.Sound text n) = settings_warnings net text n
settings_text net (settings.Faulty text root fault) = faulty_text net text fault (table_view root)
settings_text net (settings.NoDocument line) = told net line (joined (codes "not toml" ∷ []))
settings_text net settings.Unread = told net 0 (joined (codes "read fault" ∷ []))
settings_text net settings.TooLong = told net 0 (joined (codes "too large" ∷ []))

-- The settings, and then the topologies that they name, are found to be so. `counts` are the store's faults before and after, and
-- `between` those between the two.
pub record AreFound (files : Option Files) (net : List ℕ) (counts : ℕ × ℕ) (f : Findings) : Type 0 where
  pub between : ℕ
  pub later : counts.0 ≤ between
  pub settings : IsSettings files net (counts.0, between) f.settings
  pub seen : AreSeen files (rows_of f.settings) (between, counts.1) f.seen

abbrev pub findings_text : List ℕ → Findings → List ℕ
findings_text net f = settings_text net f.settings ++ topologies_text f.seen f.seen

abbrev pub has_fault : Findings → Bool
has_fault f = is_faulty f.settings || list_any (λ (s : Seen). is_refused s.look) f.seen

-- What is told is the text of what the files were found to be.
pub record IsReport (files : Option Files) (net : List ℕ) (counts : ℕ × ℕ) (r : Report) : Type 0 where
  pub findings : Findings
  pub found : AreFound files net counts findings
  pub text : r.text ≡ findings_text net findings
  pub faulty : r.is_faulty ≡ has_fault findings
