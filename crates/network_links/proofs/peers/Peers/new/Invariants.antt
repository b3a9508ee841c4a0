use Rattle.network_links.proofs.FreshLemmas.{AreNew}
use Rattle.network_links.proofs.peers.Peers.new.Given as goal

abbrev pub invariant-loop-i : goal.invariant-loop-i
invariant-loop-i l = AreNew l._i l.rows.items
