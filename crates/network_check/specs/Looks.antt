-- What the files of a network were found to be: its settings, and the topologies that these name.
use Rattle.std.specs.Prelude.{◌≡◌, ◌≤◌, ℕ, List, [], ◌∷◌, ◌++◌, length, map, sum_by, All, Option, Some, None}
use Rattle.std.specs.List.{filter_map}
use Rattle.std.specs.Option.{option_map}
use Rattle.dom_base.specs.declared.names.As.{As}
use Rattle.dom_edge.specs.Causes.{Rose, counted_on}
use Rattle.dom_edge.specs.Stores.{Files, HasFile, IfFile, IsLongFile}
use Rattle.te_text.specs.Reads.{Reads}
use Rattle.toml.specs.View.{table_view}
use Rattle.plant_text.specs.declared.settings.ElementRow.{ElementRow}
use Rattle.plant_text.specs.Reads.{IsFaulty, Reads as ReadsSettings, document}
use Rattle.network_files.specs.Settings.{settings_max}
use Rattle.network_files.specs.Topologies.{topology_max}
use Rattle.network_check.specs.declared.looks.Look.{Look}
use Rattle.network_check.specs.declared.looks.Look.TheVariants as look
use Rattle.network_check.specs.declared.looks.Seen.{Seen}
use Rattle.network_check.specs.declared.looks.Settings.{Settings}
use Rattle.network_check.specs.declared.looks.Settings.TheVariants as settings
use Rattle.network_check.specs.Breaches.{IsRefused}
use Rattle.network_check.specs.Documents.{IsNoneAt}
use Rattle.network_check.specs.Forms.{IsMalformed}

-- ---- settings

-- what a text of settings is
abbrev pub IsSettingsText : List ℕ → Settings → Type 0
IsSettingsText text (settings.Sound bytes n) = (bytes ≡ text) × ReadsSettings text n
IsSettingsText text (settings.Faulty bytes root fault) = (bytes ≡ text) × (document text ≡ Some (table_view root)) × IsFaulty text fault
IsSettingsText text (settings.NoDocument line) = IsNoneAt text line
IsSettingsText text other = ⊥

-- the file of that name has such settings, or it is not to be had; `counts` are the store's faults before and after
abbrev pub IsSettings : Option Files → List ℕ → ℕ × ℕ → Settings → Type 0
IsSettings files name counts (settings.Sound text n) = HasFile files name text × (length text ≤ settings_max) × ReadsSettings text n
IsSettings files name counts (settings.Faulty text root fault) =
    HasFile files name text × (length text ≤ settings_max) × (document text ≡ Some (table_view root)) × IsFaulty text fault
IsSettings files name counts (settings.NoDocument line) = IfFile files name (λ bytes. IsNoneAt bytes line)
IsSettings files name counts settings.Unread = Rose counts.0 counts.1
IsSettings files name counts settings.TooLong = IsLongFile files name settings_max

-- ---- topologies

-- what a text is as the topology of a domain
abbrev pub IsChartText : As → List ℕ → Look → Type 0
IsChartText at text (look.Read c) = (c.text ≡ text) × Reads text c.topology × (c.topology.own ≡ at)
IsChartText at text (look.Malformed bytes) = (bytes ≡ text) × IsMalformed text
IsChartText at text (look.Refused breaches) = IsRefused at text breaches
IsChartText at text other = ⊥

-- the file of that name is such a topology of that domain, or it is not to be had
abbrev pub IsChartLook : Option Files → As → List ℕ → ℕ × ℕ → Look → Type 0
IsChartLook files at name counts (look.Read c) =
    HasFile files name c.text × (length c.text ≤ topology_max) × Reads c.text c.topology × (c.topology.own ≡ at)
IsChartLook files at name counts (look.Malformed text) = HasFile files name text × (length text ≤ topology_max) × IsMalformed text
IsChartLook files at name counts (look.Refused breaches) = IfFile files name (λ bytes. IsRefused at bytes breaches)
IsChartLook files at name counts look.Unread = Rose counts.0 counts.1
IsChartLook files at name counts look.TooLong = IsLongFile files name topology_max

abbrev pub IsLook : Option Files → ℕ × ℕ → Seen → Type 0
IsLook files counts s = IsChartLook files s.at s.file counts s.look

-- the elements whose rows name a file, with its name, in their order
abbrev pub named_by : ElementRow → Option (As × List ℕ)
named_by row = option_map (λ (name : List ℕ). (row.own, name)) row.topology

abbrev pub named : List ElementRow → List (As × List ℕ)
named rows = filter_map named_by rows

abbrev pub place_of : Seen → As × List ℕ
place_of s = (s.at, s.file)

-- how many files could not be read
abbrev pub unread_look : Look → ℕ
unread_look look.Unread = 1
unread_look other = 0

abbrev pub unread_looks : List Seen → ℕ
unread_looks seen = sum_by (λ (s : Seen). unread_look s.look) seen

-- These are the files that the rows name, in their order, and what each was found to be; the store failed at each that could not be read.
pub record AreSeen (files : Option Files) (rows : List ElementRow) (counts : ℕ × ℕ) (seen : List Seen) : Type 0 where
  pub are_named : map place_of seen ≡ named rows
  pub are_looks : All (IsLook files counts) seen
  pub failed : counted_on (unread_looks seen) counts.0 ≤ counts.1

-- the file that a row names is seen too, where it names one
abbrev pub SeesRow : Option Files → As → Option (List ℕ) → ℕ × ℕ → List Seen → List Seen → Type 0
SeesRow files at None counts old new = new ≡ old
SeesRow files at (Some name) counts old new =
    (l : Look) × (new ≡ old ++ record { at = at; file = name; look = l } ∷ []) × IsChartLook files at name counts l
