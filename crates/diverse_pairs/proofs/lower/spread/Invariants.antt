use Rattle.std.proofs.Common.{take}
use Rattle.diverse_pairs.specs.Settling.{Spreads}
use Rattle.diverse_pairs.specs.Listed.{listed}
use Rattle.diverse_pairs.proofs.lower.spread.Given as goal

abbrev pub invariant-loop-place : goal.invariant-loop-place
invariant-loop-place l = record {
  spreads : Spreads (listed l.arcs) l._target l.node (take l.place-index l.places) l.initial.distances l.distances l.initial.waiting l.waiting;
}
