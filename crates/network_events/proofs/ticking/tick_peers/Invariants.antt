use Rattle.std.proofs.Common.{◌*◌, length}
use Rattle.network_links.specs.Carried.{flow_of}
use Rattle.network_events.specs.Standing.{here}
use Rattle.network_events.proofs.TickLaws.{peers_to}
use Rattle.network_events.proofs.TickingLaws.{Until}
use Rattle.network_events.proofs.ticking.tick_peers.Given as goal

abbrev pub invariant-loop-peer : goal.invariant-loop-peer
invariant-loop-peer g l =
    Until (λ n. peers_to g.M.Members.show n l.now l.peer) (2 * l.peer) l.peer (length (g.M.Members.stands l.initial.members).network.peers)
    (here (g.M.Members.stands l.initial.members) (flow_of l.initial.traffic))
    (here (g.M.Members.stands l.members) (flow_of l.traffic))
