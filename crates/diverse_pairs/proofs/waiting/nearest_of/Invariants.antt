use Rattle.std.proofs.Common.{◌≡◌, ◌≤◌, ℕ, ◌<◌, length}
use Rattle.std.specs.Prelude.{MatchOption}
use Rattle.diverse_pairs.specs.declared.arcs.TheConstants.{UNREACHED}
use Rattle.diverse_pairs.specs.Arcs.{at}
use Rattle.diverse_pairs.proofs.waiting.nearest_of.Given as goal

abbrev pub invariant-loop-place : goal.invariant-loop-place
invariant-loop-place l = record {
  most : l.least ≤ UNREACHED;
  each : (b : ℕ) → b < l.place-index → l.least ≤ at l.distances (at l.nearest b);
  found : MatchOption l.found (l.least ≡ UNREACHED) (λ i. (i < length l.distances) × (at l.distances i < UNREACHED));
}
