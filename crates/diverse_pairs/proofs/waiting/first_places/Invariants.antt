use Rattle.std.proofs.Common.{◌≡◌, ℕ, ◌<◌, ◌*◌, length}
use Rattle.diverse_pairs.specs.Arcs.{at}
use Rattle.diverse_pairs.proofs.waiting.first_places.Given as goal

abbrev pub invariant-loop-block : goal.invariant-loop-block
invariant-loop-block l = record {
  long : length l.places.items ≡ l.block;
  each : (b : ℕ) → b < l.block → at l.places.items b ≡ b * 8;
}
