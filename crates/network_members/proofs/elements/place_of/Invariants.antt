use Rattle.network_members.proofs.DomainLemmas.{Skips}
use Rattle.network_members.proofs.elements.place_of.Given as goal

abbrev pub invariant-loop-i : goal.invariant-loop-i
invariant-loop-i l = Skips l.at l.i l.domains
