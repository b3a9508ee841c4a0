use Rattle.network_links.specs.Carried.{flow_of}
use Rattle.network_events.proofs.LetterLaws.{PutsOn}
use Rattle.network_events.proofs.giving.put_all.Given as goal

abbrev pub invariant-loop-k : goal.invariant-loop-k
invariant-loop-k l = PutsOn l.letters.kept l.k (flow_of l.initial.traffic) (flow_of l.traffic)
