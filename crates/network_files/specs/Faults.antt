-- The words of faults.
use Rattle.std.specs.Prelude.{ℕ, List, [], codes}
use Rattle.te_links.specs.declared.fault.TopoFault.{TopoFault}
use Rattle.te_links.specs.declared.fault.TopoFault.TheVariants as topo
use Rattle.plant_text.specs.declared.fault.NetFault.{NetFault}
use Rattle.plant_text.specs.declared.fault.NetFault.TheVariants as fault

abbrev pub topology_text : TopoFault → List ℕ
topology_text topo.TooMany = codes "too many"
topology_text topo.DuplicateNode = codes "duplicate node"
topology_text topo.UnknownNode = codes "unknown node"
topology_text topo.OwnAs = codes "own as"
topology_text topo.BadMetric = codes "bad metric"
topology_text topo.DuplicateNear = codes "duplicate near"
topology_text topo.DuplicateFar = codes "duplicate far"
topology_text topo.DuplicateEntry = codes "duplicate entry"
topology_text topo.Syntax = codes "syntax"
topology_text topo.NoHeader = codes "no header"

-- what names no row of settings
abbrev pub fault_text : NetFault → List ℕ
fault_text (fault.Topo told) = topology_text told
fault_text fault.NotToml = codes "not toml"
fault_text fault.OtherAs = codes "other as"
fault_text fault.Absent = codes "absent"
fault_text fault.Present = codes "present"
fault_text fault.NoElement = codes "no element"
fault_text other = []
