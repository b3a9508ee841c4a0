-- Why the file of a line gives no topology to load.
use Rattle.std.specs.Prelude.{◌≡◌, ◌≢◌, ◌⊎◌, ℕ, List, Option, Some, None, Ok, Err}
use Rattle.dom_base.specs.declared.names.As.{As}
use Rattle.te_links.specs.Rows.{Rows}
use Rattle.te_text.specs.declared.error.TextError.TheVariants as text
use Rattle.te_text.specs.Reads.{IsFaulty, Reads}
use Rattle.te_text.specs.TopologyText.{rows_in_order}
use Rattle.te_deltas.specs.declared.changes.Change.{Change}
use Rattle.te_deltas.specs.declared.making.ChangeError.{ChangeError}
use Rattle.te_deltas.specs.declared.making.ChangeError.TheVariants as change
use Rattle.te_deltas.specs.Answers.{IsWhy}
use Rattle.te_deltas.specs.Blame.{IsBlamedAt}
use Rattle.te_deltas.specs.ChangeText.{text_in}
use Rattle.te_deltas.specs.Changes.{CanBeMade}
use Rattle.plant_text.specs.declared.fault.NetFault.{NetFault}
use Rattle.plant_text.specs.declared.fault.NetFault.TheVariants as fault
use Rattle.network_files.specs.declared.error.FileError.{FileError}
use Rattle.network_files.specs.declared.error.FileError.TheVariants.{BadFile, NoMemory}

-- out of memory, and no other error
abbrev pub IsWant : FileError → Type 0
IsWant NoMemory = Unit {0}
IsWant why = ⊥

-- ---- a topology

-- the text is refused at this line, or its topology is of another domain
abbrev pub IsTopologyFault : As → List ℕ → ℕ → NetFault → Type 0
IsTopologyFault at file line (fault.Topo told) = IsFaulty file line told
IsTopologyFault at file line fault.OtherAs = (line ≡ 1) × ((g : Rows) × Reads file g × (g.own ≢ at))
IsTopologyFault at file line other = ⊥

-- "out of memory" says nothing
abbrev pub IsWhyNoTopology : As → List ℕ → FileError → Type 0
IsWhyNoTopology at file (BadFile line fault) = IsTopologyFault at file line fault
IsWhyNoTopology at file NoMemory = Unit {0}

-- ---- changes

-- the text of changes is refused at this line
abbrev pub IsTextFault : List ℕ → ℕ → NetFault → Type 0
IsTextFault file line (fault.Topo told) = text_in file ≡ Err (text.At line told)
IsTextFault file line other = ⊥

abbrev pub IsWhyNoChanges : List ℕ → FileError → Type 0
IsWhyNoChanges file (BadFile line fault) = IsTextFault file line fault
IsWhyNoChanges file NoMemory = Unit {0}

-- the fault of changes that can't be made
abbrev pub fault_of : ChangeError → Option NetFault
fault_of (change.Absent i) = Some fault.Absent
fault_of (change.Present i) = Some fault.Present
fault_of (change.Rule told row) = Some (fault.Topo told)
fault_of change.NoMemory = None

-- the changes of a file can't be made to a topology, and this line is at fault
pub record CannotChange (g : Rows) (changes : List Change) (file : List ℕ) (line : ℕ) (fault : NetFault) : Type 0 where
  pub why : ChangeError
  pub is_why : IsWhy g changes why
  pub told : fault_of why ≡ Some fault
  pub blamed : IsBlamedAt g changes file why line

-- the same; or out of memory, and every change can be made
abbrev pub IsRefusal : Rows → List Change → List ℕ → FileError → Type 0
IsRefusal g changes file (BadFile line fault) = CannotChange g changes file line fault
IsRefusal g changes file NoMemory = CanBeMade (rows_in_order g) changes

-- the changes can't be made, or the topology is of another domain
abbrev pub IsChangeFault : As → Rows → List Change → List ℕ → ℕ → NetFault → Type 0
IsChangeFault at g changes file line why = CannotChange g changes file line why ⊎ ((line ≡ 1) × (why ≡ fault.OtherAs) × (g.own ≢ at))

-- the same; or out of memory, where the topology is of the domain and every change can be made
abbrev pub IsWhyNoChange : As → Rows → List Change → List ℕ → FileError → Type 0
IsWhyNoChange at g changes file (BadFile line fault) = IsChangeFault at g changes file line fault
IsWhyNoChange at g changes file NoMemory = (g.own ≡ at) × CanBeMade (rows_in_order g) changes

-- the file of changes is refused, or they can't be made, or the topology is of another domain
abbrev pub IsWhyNotChanged : As → Rows → List ℕ → FileError → Type 0
IsWhyNotChanged at g file (BadFile line fault) = IsTextFault file line fault ⊎ ((changes : List Change) × (text_in file ≡ Ok changes) × IsChangeFault at g changes file line fault)
IsWhyNotChanged at g file NoMemory = Unit {0}
