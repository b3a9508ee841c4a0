use Rattle.std.proofs.Common.{subst}
use Rattle.network_files.specs.Loading.{IsWhyNot}
use Rattle.network_files.specs.Topologies.{IsFaultyAt, topology_max}
use Rattle.pce_tool.proofs.Ending.{topology_status}
use Rattle.pce_tool.proofs.files.load_topology.Goals as goal

pub returns-in-Err-Fault-clause-err : goal.returns-in-Err-Fault-clause-err
returns-in-Err-Fault-clause-err g c =
    topology_status (g.S.Store.files c.args.store.now) c.args.name.now c.in-Err-Fault.at.line c.in-Err-Fault.at.fault
    (g.S.Store.faults c.args.store.now, g.S.Store.faults c.load_topology.new.store) (g.S.Store.failed_at c.load_topology.new.store)
    (subst (IsWhyNot IsFaultyAt topology_max (g.S.Store.files c.args.store.now) c.args.name.now (g.S.Store.faults c.args.store.now, g.S.Store.faults c.load_topology.new.store) (g.S.Store.failed_at c.load_topology.new.store)) c.in-Err-Fault.field-0-is c.in-Err-Fault.ensures.err)
    c.bad_network.result c.bad_network.ensures
