use Rattle.std.proofs.Common.{◌≡◌, ◌++◌, length, map}
use Rattle.pce_common.specs.plant_model.Branches.{path_of}
use Rattle.pce_common.specs.plant_model.RealWire.{wire}
use Rattle.pce_element.proofs.answering.each_path.Given as goal

abbrev pub invariant-loop-branch : goal.invariant-loop-branch
invariant-loop-branch l = l.paths ++ map (λ b. path_of wire l.metric b.cost b.hops) l.left.items ≡ map (λ b. path_of wire l.metric b.cost b.hops) l.fn.branches

abbrev pub decreases-loop-branch : goal.decreases-loop-branch
decreases-loop-branch l = length l.left.items
