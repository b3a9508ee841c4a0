use Rattle.std.proofs.Common.{◌≡◌, length}
use Rattle.diverse_pairs.specs.Distances.{AreMade}
use Rattle.diverse_pairs.specs.Settling.{work, IsResting}
use Rattle.diverse_pairs.specs.Listed.{listed}
use Rattle.diverse_pairs.proofs.lower.distances.Given as goal

abbrev pub invariant-loop-node : goal.invariant-loop-node
invariant-loop-node l = record {
  made : AreMade (listed l.arcs) l.target l.distances.items;
  long : length l.distances.items ≡ length l.topology.nodes;
  as_long : length l.waiting ≡ length l.topology.nodes;
  rests : IsResting (listed l.arcs) l.distances.items l.waiting;
}

abbrev pub decreases-loop-node : goal.decreases-loop-node
decreases-loop-node l = work l.distances.items l.waiting
