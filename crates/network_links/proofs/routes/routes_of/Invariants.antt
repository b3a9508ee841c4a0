use Rattle.network_links.proofs.RouteLemmas.{Found}
use Rattle.network_links.proofs.routes.routes_of.Given as goal

abbrev pub invariant-loop-i : goal.invariant-loop-i
invariant-loop-i l = Found l.own l.i l.peers l.found
