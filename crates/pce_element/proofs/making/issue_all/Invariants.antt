use Rattle.std.proofs.Common.{◌≡◌, ◌≤◌, length}
use Rattle.pce_element.specs.Changes.{MayIssue, all_issued}
use Rattle.pce_element.proofs.making.issue_all.Given as goal

abbrev pub invariant-loop-segment : goal.invariant-loop-segment
invariant-loop-segment g l = record {
  all : all_issued l.now.0 l.left.items l.keys.kept ≡ all_issued l.now.0 l.fn.segments l.initial.keys.kept;
  may : MayIssue l.keys.kept l.now.0 l.left.items;
  room : length l.left.items ≤ l.keys.spare;
}

abbrev pub decreases-loop-segment : goal.decreases-loop-segment
decreases-loop-segment g l = length l.left.items
