use Rattle.std.proofs.Common.{◌≡◌, ◌++◌, length}
use Rattle.pce_common.specs.plant_model.Branches.{branches_in}
use Rattle.pce_common.specs.plant_model.RealWire.{wire}
use Rattle.pce_common.specs.plant_model.Parent.{rows_at}
use Rattle.pce_parent.proofs.rows.rows_of.Given as goal

abbrev pub invariant-loop-path : goal.invariant-loop-path
invariant-loop-path l = l.rows ++ rows_at l.wait.child l.wait.target (branches_in wire l.metric l.left.items) ≡ rows_at l.wait.child l.wait.target (branches_in wire l.metric l.fn.paths)

abbrev pub decreases-loop-path : goal.decreases-loop-path
decreases-loop-path l = length l.left.items
