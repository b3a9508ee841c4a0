use Rattle.std.proofs.Common.{◌≡◌, drop}
use Rattle.pce_common.specs.plant_model.Parent.{any_on}
use Rattle.pce_parent.proofs.wait.waits_on.Given as goal

abbrev pub invariant-loop-wait : goal.invariant-loop-wait
invariant-loop-wait l = any_on l.peer l.waits ≡ any_on l.peer (drop l.wait-index l.waits)
