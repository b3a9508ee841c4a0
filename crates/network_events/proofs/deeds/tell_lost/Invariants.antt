use Rattle.std.proofs.Common.{length}
use Rattle.network_links.specs.Carried.{flow_of}
use Rattle.network_events.specs.Standing.{here}
use Rattle.network_events.proofs.TellLaws.{TellsOn}
use Rattle.network_events.proofs.deeds.tell_lost.Given as goal

abbrev pub invariant-loop-lost : goal.invariant-loop-lost
invariant-loop-lost g l =
    TellsOn l.at
    (here (g.M.Members.stands l.initial.members) (flow_of l.initial.traffic))
    (here (g.M.Members.stands l.members) (flow_of l.traffic))

abbrev pub decreases-loop-lost : goal.decreases-loop-lost
decreases-loop-lost g l = length ((g.M.Members.stands l.members).lost l.at)
