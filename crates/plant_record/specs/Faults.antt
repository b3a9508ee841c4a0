-- Why a record may end by a fault.
use Rattle.std.specs.Prelude.{ℕ, ◌≤◌, Ok, Err}
use Rattle.std.specs.declared.result.Result.{Result}
use Rattle.dom_edge.specs.Causes.{Rose}
use Rattle.dom_edge.specs.declared.folder.FolderError.{FolderError}
use Rattle.dom_edge.specs.declared.folder.FolderError.TheVariants as folder
use Rattle.plant_record.specs.declared.fault.Fault.{Fault}
use Rattle.plant_record.specs.declared.fault.Fault.TheVariants.{Folder, Write, NoMemory}

-- the fault of a folder's error
abbrev pub fault_of : FolderError → Fault
fault_of folder.Failed = Folder
fault_of folder.NoMemory = NoMemory

-- A call of the folder failed, or a write to a file; that memory ran out needs no cause.
abbrev pub HasReason : {F : Type 0} → (F → ℕ) → ℕ → ℕ → Fault → Type 0
HasReason {F} faults before now Folder = Rose before now
HasReason {F} faults before now Write = (old : F) × (new : F) × Rose (faults old) (faults new)
HasReason {F} faults before now NoMemory = Unit {0}

-- the folder's count has not fallen, and a fault has its reason
abbrev pub IsJudged : {F X : Type 0} → (F → ℕ) → ℕ → ℕ → Result X Fault → Type 0
IsJudged faults before now (Ok x) = before ≤ now
IsJudged faults before now (Err fault) = (before ≤ now) × HasReason faults before now fault
