use Rattle.std.proofs.Common.{◌≡◌, ◌<◌, ◌≤◌, ℕ}
use Rattle.path_search.specs.Blocks.{num_at}
use Rattle.path_search.specs.declared.blocks.TheConstants.{NOTHING}
use Rattle.path_search.proofs.blocks.least_of.Given as goal

abbrev pub invariant-loop-number : goal.invariant-loop-number
invariant-loop-number l = record {
  small : l.least ≤ NOTHING;
  no_more : (i : ℕ) → i < l.number-index → l.least ≤ num_at l.numbers i;
  stands : l.least < NOTHING → (i : ℕ) × (num_at l.numbers i ≡ l.least);
}
