-- How the parts of a run end: the reading of a file, of the input, and the writing.
use Rattle.std.specs.Prelude.{◌≡◌, ◌≤◌, ℕ, List, length, Option}
use Rattle.std.specs.Io.KnownBytes.{Appends}
use Rattle.dom_edge.specs.Stores.{Files, IfFile, IsLongFile}
use Rattle.te_links.specs.declared.fault.TopoFault.{TopoFault}
use Rattle.client_laws.specs.plant_model.Types.{NetFault}
use Rattle.plant_text.specs.declared.fault.NetFault.TheVariants.{Topo}
use Rattle.pce_tool.specs.declared.status.Status.{Status}
use Rattle.pce_tool.specs.declared.status.Status.TheVariants as status
use Rattle.pce_tool.specs.Limits.{input_max}
use Rattle.pce_tool.specs.Worlds.{HasInput, HasRisen, IsLongInput, input_name}
use Rattle.dom_edge.specs.Whole.{AppendsSome}
use Rattle.pce_tool.specs.declared.reading.Why.{Why}

-- Why a file of that name was not read: the status of a run that ends there. `counts` are the store's faults before and after.
abbrev pub IsFileStatus : Option Files → List ℕ → ℕ → (List ℕ → ℕ → NetFault → Type 0) → ℕ × ℕ → List ℕ → Status → Type 0
IsFileStatus files name limit IsFault counts failed_at status.ReadFault = HasRisen counts × (failed_at ≡ name)
IsFileStatus files name limit IsFault counts failed_at (status.BadNetwork file line fault) =
    (file ≡ name) × IfFile files name (λ bytes. IsFault bytes line fault)
IsFileStatus files name limit IsFault counts failed_at status.NoMemory = Unit {0}
IsFileStatus files name limit IsFault counts failed_at (status.TooLarge file) = (file ≡ name) × IsLongFile files name limit
IsFileStatus files name limit IsFault counts failed_at _ = ⊥

-- Why an input gave no request: the status of a run that ends there. `counts` are the input's faults before and after.
-- `IsBad` is why bytes are no such request.
abbrev pub IsInputStatus : (List ℕ → Why → Type 0) → Option (List ℕ) → ℕ × ℕ → Status → Type 0
IsInputStatus IsBad input counts status.ReadFault = HasRisen counts
IsInputStatus IsBad input counts status.NoMemory = Unit {0}
IsInputStatus IsBad input counts (status.BadRequest why) =
    (bytes : List ℕ) × HasInput input bytes × (length bytes ≤ input_max) × IsBad bytes why
IsInputStatus IsBad input counts (status.TooLarge name) = (name ≡ input_name) × IsLongInput input
IsInputStatus IsBad input counts _ = ⊥

-- bytes that are taken as they are, are never bad
abbrev pub IsNeverBad : List ℕ → Why → Type 0
IsNeverBad bytes why = ⊥

-- the bytes of an input that is not too long
pub record IsInput (input : Option (List ℕ)) (bytes : List ℕ) : Type 0 where
  pub is_input : HasInput input bytes
  pub within : length bytes ≤ input_max

-- bytes that are read as they are have no fault
abbrev pub IsNoFault : List ℕ → ℕ → NetFault → Type 0
IsNoFault bytes line fault = ⊥

-- the status names the file, its line and the fault, unless memory ran out
abbrev pub IsBadAt : List ℕ → ℕ → TopoFault → Status → Type 0
IsBadAt name line fault status.NoMemory = Unit {0}
IsBadAt name line fault (status.BadNetwork file at other) = (file ≡ name) × (at ≡ line) × (other ≡ Topo fault)
IsBadAt name line fault _ = ⊥

-- the status names the file of settings and the fault, unless memory ran out
abbrev pub IsBadSettings : List ℕ → NetFault → Status → Type 0
IsBadSettings name fault status.NoMemory = Unit {0}
IsBadSettings name fault (status.BadNetwork file at other) = (file ≡ name) × (at ≡ 0) × (other ≡ fault)
IsBadSettings name fault _ = ⊥

-- the status names the file, unless memory ran out
abbrev pub IsTooLarge : List ℕ → Status → Type 0
IsTooLarge name status.NoMemory = Unit {0}
IsTooLarge name (status.TooLarge file) = file ≡ name
IsTooLarge name _ = ⊥

-- the whole text was written, or the output failed and a first part of it was
abbrev pub IsFinished : Option (List ℕ) → Option (List ℕ) → ℕ × ℕ → List ℕ → Status → Type 0
IsFinished before after counts text status.Ok = Appends before after text
IsFinished before after counts text status.WriteFault = HasRisen counts × AppendsSome before after text
IsFinished before after counts text _ = ⊥
