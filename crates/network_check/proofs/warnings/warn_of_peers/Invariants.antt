use Rattle.std.proofs.Common.{◌≡◌, ◌++◌, [], drop, take}
use Rattle.network_check.specs.Warnings.{peers_warnings}
use Rattle.network_check.proofs.warnings.warn_of_peers.Given as goal

abbrev pub invariant-loop-i : goal.invariant-loop-i
invariant-loop-i l = l.into.items ++ peers_warnings l.page.file.now l.page.text.now l.parts.watch (take l.i l.peers) (drop l.i l.peers) ≡ l.initial.into.items ++ peers_warnings l.page.file.now l.page.text.now l.parts.watch [] l.peers
