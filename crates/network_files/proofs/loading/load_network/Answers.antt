use Rattle.std.proofs.Common.{Err, ap}
use Rattle.plant_text.specs.Reads.{IsFaulty}
use Rattle.network_files.specs.Settings.{settings_max}
use Rattle.network_files.proofs.Found.{in_file}
use Rattle.network_files.proofs.loading.load_network.Goals as goal

pub returns-in-Err-Fault-clause-err : goal.returns-in-Err-Fault-clause-err
returns-in-Err-Fault-clause-err g c =
    in_file (g.S.Store.files c.args.store.now) c.args.name.now c.as_slice.result.now settings_max (λ bytes. IsFaulty bytes c.in-Err-Fault.fault) (rw c.as_slice.ensures c.in_ok-bytes.ensures.reads)
    (c.in-Err-Fault.ensures.refused c.in-Err-Fault.fault (ap Err c.in-Err-Fault.field-0-is))
