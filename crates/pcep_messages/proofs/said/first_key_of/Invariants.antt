use Rattle.std.proofs.Common.{◌≡◌, drop}
use Rattle.pcep_messages.specs.Said.{first_key}
use Rattle.pcep_messages.proofs.said.first_key_of.Given as goal

abbrev pub invariant-loop-hop : goal.invariant-loop-hop
invariant-loop-hop l = first_key (drop l.hop-index l.route) ≡ first_key l.route
