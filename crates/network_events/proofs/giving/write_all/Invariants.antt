use Rattle.std.proofs.Common.{◌≡◌, ◌++◌, drop}
use Rattle.pce_common.specs.plant_model.RealWire.{wire}
use Rattle.pce_common.specs.plant_model.State.{sent_by}
use Rattle.network_events.proofs.giving.write_all.Given as goal

abbrev pub invariant-loop-output : goal.invariant-loop-output
invariant-loop-output l = l.letters.kept ++ sent_by wire l.at (drop l.output-index l.output-items) ≡ sent_by wire l.at l.output-items
