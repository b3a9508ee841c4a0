use Rattle.network_links.specs.Carried.{flow_of}
use Rattle.network_events.proofs.LetterLaws.{KeepsOn}
use Rattle.network_events.proofs.giving.reserve_all.Given as goal

abbrev pub invariant-loop-k : goal.invariant-loop-k
invariant-loop-k g l = KeepsOn (g.M.Members.stands l.members).network l.at l.fn.peer l.asked l.letters.kept l.k (g.M.Members.stands l.members).seen (flow_of l.fn.traffic) (flow_of l.traffic)
