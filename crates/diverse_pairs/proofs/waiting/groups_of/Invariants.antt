use Rattle.std.proofs.Common.{◌≡◌, ℕ, ◌<◌, length}
use Rattle.diverse_pairs.specs.Arcs.{at}
use Rattle.diverse_pairs.specs.Blocks.{IsNearestIn}
use Rattle.diverse_pairs.proofs.waiting.groups_of.Given as goal

abbrev pub invariant-loop-group : goal.invariant-loop-group
invariant-loop-group l = record {
  long : length l.groups.items ≡ l.group;
  each : (b : ℕ) → b < l.group → IsNearestIn 64 l.distances b (at l.groups.items b);
}
