-- Which topology a file of a store has, and at which line it fails to have one.
use Rattle.std.specs.Prelude.{ℕ, List, Option}
use Rattle.dom_edge.specs.Stores.{Files}
use Rattle.te_links.specs.Rows.{Rows}
use Rattle.te_text.specs.Reads.{Reads, IsFaulty}
use Rattle.network_files.specs.declared.loading.LineFault.{LineFault}
use Rattle.network_files.specs.Loading.{FileSays}

-- how many bytes the file may have
abbrev pub topology_max : ℕ
topology_max = 4194304

-- the topology in the file of that name
abbrev pub HasTopology : Option Files → List ℕ → Rows → Type 0
HasTopology files name g = FileSays Reads topology_max files name g

-- the text is refused at this line, for this fault
abbrev pub IsFaultyAt : List ℕ → LineFault → Type 0
IsFaultyAt bytes at = IsFaulty bytes at.line at.fault
