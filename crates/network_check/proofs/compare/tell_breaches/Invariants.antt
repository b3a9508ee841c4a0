use Rattle.std.proofs.Common.{◌≡◌, ◌++◌, drop}
use Rattle.network_check.specs.Compare.{breaches_text}
use Rattle.network_check.proofs.compare.tell_breaches.Given as goal

abbrev pub invariant-loop-breach : goal.invariant-loop-breach
invariant-loop-breach l = l.into.items ++ breaches_text l.file (drop l.breach-index l.breaches) ≡ l.initial.into.items ++ breaches_text l.file l.breaches
