use Rattle.std.proofs.Common.{◌≤◌, length}
use Rattle.pce_common.specs.plant_model.Parent.{ready_numbers}
use Rattle.network_members.proofs.hierarchy.count_above.Given as goal

abbrev pub invariant-loop-count : goal.invariant-loop-count
invariant-loop-count l = l.count ≤ length (ready_numbers l.parent.losing.parent.pending.rows)
