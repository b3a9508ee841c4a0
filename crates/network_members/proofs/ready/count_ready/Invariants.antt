use Rattle.std.proofs.Common.{◌≤◌, length}
use Rattle.pce_common.specs.plant_model.Element.{ready_numbers}
use Rattle.network_members.proofs.ready.count_ready.Given as goal

abbrev pub invariant-loop-count : goal.invariant-loop-count
invariant-loop-count g l = l.count ≤ length (ready_numbers l.element.losing.element.pending.rows)
