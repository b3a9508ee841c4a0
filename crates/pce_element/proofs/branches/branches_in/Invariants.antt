use Rattle.std.proofs.Common.{◌≡◌, ◌++◌, length}
use Rattle.pce_common.specs.plant_model.Branches.{branches_in}
use Rattle.pce_common.specs.plant_model.RealWire.{wire}
use Rattle.pce_element.proofs.branches.branches_in.Given as goal

abbrev pub invariant-loop-path : goal.invariant-loop-path
invariant-loop-path l = l.branches ++ branches_in wire l.metric l.left.items ≡ branches_in wire l.metric l.fn.paths

abbrev pub decreases-loop-path : goal.decreases-loop-path
decreases-loop-path l = length l.left.items
