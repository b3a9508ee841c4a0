use Rattle.std.proofs.Common.{take}
use Rattle.pce_parent.specs.Costs.{AreReached}
use Rattle.pce_parent.proofs.Passes.{Passed}
use Rattle.pce_parent.proofs.relax.relax_all.Given as goal

abbrev pub invariant-loop-arc : goal.invariant-loop-arc
invariant-loop-arc l = record {
  reached : AreReached l.job l.spots l.costs;
  passes : Passed l.job.query.cap (take l.arc-index l.arcs) l.initial.costs l.costs l.changed;
}
