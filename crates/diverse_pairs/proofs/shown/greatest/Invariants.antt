use Rattle.std.proofs.Common.{ℕ, ◌≡◌, ◌<◌, ◌≤◌, ◌⊎◌}
use Rattle.diverse_pairs.specs.declared.arcs.TheConstants.{UNREACHED}
use Rattle.diverse_pairs.specs.Arcs.{at}
use Rattle.diverse_pairs.specs.Shown.{HasHeight}
use Rattle.diverse_pairs.proofs.shown.greatest.Given as goal

abbrev pub invariant-loop-height : goal.invariant-loop-height
invariant-loop-height l = record {
  above : (n : ℕ) → n < l.height-index → at l.heights n < UNREACHED → at l.heights n ≤ l.top;
  met : (l.top ≡ 0) ⊎ HasHeight l.heights l.top;
}
