use Rattle.std.proofs.Common.{length, take}
use Rattle.std.specs.List.{AllZip, zip}
use Rattle.vspt_tree.specs.Branches.{IsBranchOf}
use Rattle.vspt_tree.proofs.tree.join.Given as goal

abbrev pub invariant-loop-row : goal.invariant-loop-row
invariant-loop-row l = AllZip (λ part branch. IsBranchOf l.down part.0 part.1 branch) (take (length l.yielded) (zip l.best l.own)) l.branches
