use Rattle.std.proofs.Common.{ℕ, ◌<◌, ◌++◌}
use Rattle.diverse_pairs.specs.Conditions.{LinkHoldsAt}
use Rattle.diverse_pairs.specs.Potentials.{potential_in}
use Rattle.diverse_pairs.proofs.false_links.false_link.Given as goal

abbrev pub invariant-loop-index : goal.invariant-loop-index
invariant-loop-index l = (j : ℕ) → j < l.index → LinkHoldsAt l.topology l.query (potential_in l.potentials) (l.first ++ l.second) j
