use Rattle.std.proofs.Common.{◌≡◌, ℕ, ◌<◌, true}
use Rattle.std.specs.Prelude.{slice_index_or}
use Rattle.diverse_pairs.specs.declared.arcs.Arc.{Arc}
use Rattle.diverse_pairs.specs.Arcs.{IsArc, is_used}
use Rattle.diverse_pairs.specs.Uses.{marks_of}
use Rattle.diverse_pairs.specs.Listed.{listed}
use Rattle.diverse_pairs.proofs.lowest.first_among.Given as goal

abbrev pub invariant-loop-place : goal.invariant-loop-place
invariant-loop-place l =
    (k : ℕ) (b : Arc) → k < l.place-index → IsArc (listed l.arcs) (slice_index_or l.places k 0) b → is_used (marks_of l.uses (listed l.arcs)) (slice_index_or l.places k 0) ≡ true → b.tail ≡ l.from → ⊥
