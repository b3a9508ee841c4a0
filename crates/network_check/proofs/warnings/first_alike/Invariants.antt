use Rattle.std.proofs.Common.{◌≡◌, drop}
use Rattle.network_check.specs.Warnings.{met}
use Rattle.network_check.proofs.warnings.first_alike.Given as goal

abbrev pub invariant-loop-peer : goal.invariant-loop-peer
invariant-loop-peer l = met (drop l.peer-index l.before) l.row ≡ met l.before l.row
