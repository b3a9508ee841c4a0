use Rattle.std.proofs.Common.{◌≡◌, drop}
use Rattle.pce_common.specs.plant_model.Parent.{among}
use Rattle.pce_parent.proofs.wait.waits_for.Given as goal

abbrev pub invariant-loop-wait : goal.invariant-loop-wait
invariant-loop-wait l = among l.peer l.waits l.id ≡ among l.peer (drop l.wait-index l.waits) l.id
