use Rattle.std.proofs.Common.{◌≤◌, ◌*◌, ◌+◌, ℕ, ◌<◌, length}
use Rattle.diverse_pairs.specs.Arcs.{at}
use Rattle.diverse_pairs.proofs.waiting.nearest_among.Given as goal

abbrev pub invariant-loop-block : goal.invariant-loop-block
invariant-loop-block l = record {
  from : l.group * 64 ≤ l.found;
  to : l.found < l.group * 64 + 64;
  below : l.found < length l.distances;
  least : (b : ℕ) → l.group * 8 ≤ b → b < l.block → at l.distances l.found ≤ at l.distances (at l.nearest b);
}
