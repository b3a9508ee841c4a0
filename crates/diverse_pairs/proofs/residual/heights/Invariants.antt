use Rattle.std.proofs.Common.{◌≡◌, ℕ, ◌<◌, length}
use Rattle.diverse_pairs.specs.Arcs.{at}
use Rattle.diverse_pairs.specs.Residual.{height_of}
use Rattle.diverse_pairs.proofs.residual.heights.Given as goal

abbrev pub invariant-loop-node : goal.invariant-loop-node
invariant-loop-node l = record {
  long : length l.heights.items ≡ l.node;
  each : (n : ℕ) → n < l.node → at l.heights.items n ≡ height_of (at l.first n) (at l.second n);
}
