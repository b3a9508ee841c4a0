use Rattle.network_links.specs.Carried.{flow_of}
use Rattle.network_events.proofs.OpeningLaws.{KeptUpTo}
use Rattle.network_events.proofs.opening.keep_all.Given as goal

abbrev pub invariant-loop-k : goal.invariant-loop-k
invariant-loop-k l = KeptUpTo l.k (flow_of l.initial.traffic) (flow_of l.traffic)
