use Rattle.std.proofs.Common.{◌≡◌, ◌++◌, drop}
use Rattle.network_check.specs.Told.{shown}
use Rattle.network_check.proofs.told.write_name.Given as goal

abbrev pub invariant-loop-octet : goal.invariant-loop-octet
invariant-loop-octet l = l.into.items ++ shown (drop l.octet-index l.name) ≡ l.initial.into.items ++ shown l.name
