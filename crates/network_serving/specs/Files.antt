-- Why a file stops a server from starting: the settings, or a topology that they name.
use Rattle.std.specs.Prelude.{◌≡◌, ◌⊎◌, ℕ, List, Contains, Option, Some, None}
use Rattle.dom_base.specs.declared.names.As.{As}
use Rattle.dom_edge.specs.Causes.{Rose}
use Rattle.dom_edge.specs.Stores.{Files, IfFile, IsLongFile}
use Rattle.network_files.specs.Reading.{IsTopologyFault}
use Rattle.network_files.specs.Settings.{HasNetwork, settings_max}
use Rattle.plant_text.specs.Reads.{IsFaulty}
use Rattle.plant_text.specs.declared.fault.NetFault.{NetFault}
use Rattle.plant_text.specs.declared.settings.ElementRow.{ElementRow}
use Rattle.plant_text.specs.declared.settings.NetworkParts.{NetworkParts}
use Rattle.network_serving.specs.Ports.{IsRefusedPort}
use Rattle.network_serving.specs.declared.served.Served.{Served}
use Rattle.network_serving.specs.declared.served.Served.TheVariants as served

-- how many bytes a topology may have
abbrev pub topology_max : ℕ
topology_max = 4194304

-- The file of that name was not read, or it is too large, or it is refused at a line. `counts` are the store's faults before and
-- after, and `failed_at` the name at which it last failed.
abbrev pub IsFileEnd : Option Files → List ℕ → ℕ → (List ℕ → ℕ → NetFault → Type 0) → ℕ × ℕ → List ℕ → Served → Type 0
IsFileEnd files name limit IsFault counts failed_at served.ReadFault = Rose counts.0 counts.1 × (failed_at ≡ name)
IsFileEnd files name limit IsFault counts failed_at (served.TooLarge file) = (file ≡ name) × IsLongFile files name limit
IsFileEnd files name limit IsFault counts failed_at (served.BadNetwork file line fault) = (file ≡ name) × IfFile files name (λ bytes. IsFault bytes line fault)
IsFileEnd files name limit IsFault counts failed_at served.NoMemory = Unit {0}
IsFileEnd files name limit IsFault counts failed_at s = ⊥

-- the bytes are no settings, for that reason; a fault of settings has no line
abbrev pub IsSettingsFault : List ℕ → ℕ → NetFault → Type 0
IsSettingsFault bytes line fault = (line ≡ 0) × IsFaulty bytes fault

-- the topology that an element's row names is not to be had, or memory ran out
abbrev pub IsNamedEnd : Option Files → As → Option (List ℕ) → ℕ × ℕ → List ℕ → Served → Type 0
IsNamedEnd files at None counts failed_at s = s ≡ served.NoMemory
IsNamedEnd files at (Some name) counts failed_at s = IsFileEnd files name topology_max (IsTopologyFault at) counts failed_at s

-- a topology that the settings name ends it
pub record IsTopologyEnd (files : Option Files) (n : NetworkParts) (counts : ℕ × ℕ) (failed_at : List ℕ) (s : Served) : Type 0 where
  pub row : ElementRow
  pub element : Contains n.elements row
  pub ends : IsNamedEnd files row.own row.topology counts failed_at s

-- these are the settings in the file, and they name a port twice, or a topology that is not to be had
pub record IsNetworkEnd (files : Option Files) (name : List ℕ) (counts : ℕ × ℕ) (failed_at : List ℕ) (s : Served) : Type 0 where
  pub network : NetworkParts
  pub has : HasNetwork files name network
  pub ends : IsRefusedPort name network s ⊎ IsTopologyEnd files network counts failed_at s

-- the settings in the file of that name are not to be had, or what they name is not
abbrev pub IsLoadEnd : Option Files → List ℕ → ℕ × ℕ → List ℕ → Served → Type 0
IsLoadEnd files name counts failed_at s = IsFileEnd files name settings_max IsSettingsFault counts failed_at s ⊎ IsNetworkEnd files name counts failed_at s

-- ---- parts of it

-- nothing is a fault yet
abbrev pub IsNoFault : List ℕ → ℕ → NetFault → Type 0
IsNoFault bytes line fault = ⊥

abbrev pub IsTooLarge : List ℕ → Served → Type 0
IsTooLarge name (served.TooLarge file) = file ≡ name
IsTooLarge name served.NoMemory = Unit {0}
IsTooLarge name s = ⊥

abbrev pub IsBadAt : List ℕ → ℕ → NetFault → Served → Type 0
IsBadAt name line fault (served.BadNetwork file at other) = (file ≡ name) × (at ≡ line) × (other ≡ fault)
IsBadAt name line fault served.NoMemory = Unit {0}
IsBadAt name line fault s = ⊥

-- bytes that are refused, in the file of that name
abbrev pub IsBadText : List ℕ → (ℕ → NetFault → Type 0) → Served → Type 0
IsBadText name IsFault (served.BadNetwork file line fault) = (file ≡ name) × IsFault line fault
IsBadText name IsFault served.NoMemory = Unit {0}
IsBadText name IsFault s = ⊥
