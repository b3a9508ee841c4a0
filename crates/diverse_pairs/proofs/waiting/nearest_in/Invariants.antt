use Rattle.std.proofs.Common.{◌≤◌, ◌*◌, ◌+◌, ℕ, ◌<◌, length}
use Rattle.diverse_pairs.specs.Arcs.{at}
use Rattle.diverse_pairs.proofs.waiting.nearest_in.Given as goal

abbrev pub invariant-loop-place : goal.invariant-loop-place
invariant-loop-place l = record {
  from : l.block * 8 ≤ l.nearest;
  to : l.nearest < l.block * 8 + 8;
  below : l.nearest < length l.distances;
  least : (i : ℕ) → l.block * 8 ≤ i → i < l.place → at l.distances l.nearest ≤ at l.distances i;
}
