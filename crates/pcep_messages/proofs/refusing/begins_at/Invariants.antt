use Rattle.std.proofs.Common.{◌≡◌, drop}
use Rattle.pcep_messages.specs.Refusals.{begins_with, domains}
use Rattle.pcep_messages.proofs.refusing.begins_at.Given as goal

abbrev pub invariant-loop-hop : goal.invariant-loop-hop
invariant-loop-hop l = begins_with l.own (domains (drop l.hop-index l.route)) ≡ begins_with l.own (domains l.route)
