use Rattle.network_links.proofs.PlaceLemmas.{Other}
use Rattle.network_links.proofs.links.place_of.Given as goal

abbrev pub invariant-loop-i : goal.invariant-loop-i
invariant-loop-i l = Other l.at l.to l.i l.links
