use Rattle.std.proofs.Common.{ℕ, ◌<◌}
use Rattle.std.specs.Prelude.{◌↔◌, IsTrue}
use Rattle.diverse_pairs.specs.Conditions.{IsOnlyToLeave, Leaves}
use Rattle.diverse_pairs.proofs.false_crossing.second_to_leave.Given as goal

-- whether a link so far leaves the nodes; at most one does
abbrev pub invariant-loop-index : goal.invariant-loop-index
invariant-loop-index l = record {
  told : IsTrue l.seen ↔ ((j : ℕ) × (j < l.index) × Leaves l.topology l.query l.nodes j);
  only : (i : ℕ) → i < l.index → IsOnlyToLeave l.topology l.query l.nodes i;
}
