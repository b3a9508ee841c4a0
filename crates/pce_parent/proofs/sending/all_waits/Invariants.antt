use Rattle.std.proofs.Common.{◌≡◌, ◌++◌, drop}
use Rattle.pce_common.specs.plant_model.Parent.{all_waits}
use Rattle.pce_parent.proofs.sending.all_waits.Given as goal

abbrev pub invariant-loop-i : goal.invariant-loop-i
invariant-loop-i l = all_waits l.requests.kept.rows ≡ l.waits.items ++ all_waits (drop l.i l.requests.kept.rows)
