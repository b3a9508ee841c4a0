use Rattle.std.proofs.Common.{◌≡◌, ◌⊎◌}
use Rattle.diverse_pairs.specs.Arcs.{at}
use Rattle.diverse_pairs.specs.Paths.{HasArcInto}
use Rattle.diverse_pairs.specs.Uses.{marks_of}
use Rattle.diverse_pairs.specs.Listed.{listed}
use Rattle.diverse_pairs.proofs.Walking.{IsUnderway}
use Rattle.diverse_pairs.proofs.lowest.lowest_path.Given as goal

abbrev pub invariant-loop-here : goal.invariant-loop-here
invariant-loop-here l = record {
  way : IsUnderway (listed l.arcs) (marks_of l.uses (listed l.arcs)) l.source l.path.items l.here l.target;
  stands : (l.here ≡ l.source) ⊎ HasArcInto (listed l.arcs) (marks_of l.uses (listed l.arcs)) l.here;
}

abbrev pub decreases-loop-here : goal.decreases-loop-here
decreases-loop-here l = at l._heights l.here
