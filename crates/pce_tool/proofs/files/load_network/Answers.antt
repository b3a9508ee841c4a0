use Rattle.std.proofs.Common.{subst}
use Rattle.plant_text.specs.Reads.{IsFaulty}
use Rattle.network_files.specs.Loading.{IsWhyNot}
use Rattle.network_files.specs.Settings.{settings_max}
use Rattle.pce_tool.proofs.NetworkEnds.{settings_status}
use Rattle.pce_tool.proofs.files.load_network.Goals as goal

pub returns-in-Err-Fault-clause-err : goal.returns-in-Err-Fault-clause-err
returns-in-Err-Fault-clause-err g c =
    settings_status (g.S.Store.files c.args.store.now) c.args.name.now c.in-Err-Fault.fault
    (g.S.Store.faults c.args.store.now, g.S.Store.faults c.load_network.new.store) (g.S.Store.failed_at c.load_network.new.store)
    (subst (IsWhyNot IsFaulty settings_max (g.S.Store.files c.args.store.now) c.args.name.now (g.S.Store.faults c.args.store.now, g.S.Store.faults c.load_network.new.store) (g.S.Store.failed_at c.load_network.new.store)) c.in-Err-Fault.field-0-is c.in-Err-Fault.ensures.err)
    c.bad_settings.result c.bad_settings.ensures
