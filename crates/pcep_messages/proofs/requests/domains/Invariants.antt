use Rattle.std.proofs.Common.{◌≡◌, ◌++◌, Some, drop}
use Rattle.pcep_messages.specs.Requests.{sequence_of}
use Rattle.pcep_messages.proofs.requests.domains.Given as goal

abbrev pub invariant-loop-hop : goal.invariant-loop-hop
invariant-loop-hop l = l.found ++ sequence_of (Some (drop l.hop-index l.route)) ≡ sequence_of (Some l.route)
