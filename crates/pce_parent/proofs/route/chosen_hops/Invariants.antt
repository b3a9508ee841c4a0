use Rattle.pce_parent.proofs.Walking.{IsUnderway}
use Rattle.pce_parent.proofs.route.chosen_hops.Given as goal

abbrev pub invariant-loop-hops : goal.invariant-loop-hops
invariant-loop-hops l = IsUnderway l.job l.spots l.costs l.fn.start l.at l.hops

abbrev pub decreases-loop-hops : goal.decreases-loop-hops
decreases-loop-hops l = l.at.rest
