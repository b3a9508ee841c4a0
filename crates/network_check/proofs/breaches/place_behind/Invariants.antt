use Rattle.std.proofs.Common.{◌≡◌, ◌+◌, drop}
use Rattle.network_check.specs.Breaches.{place_behind}
use Rattle.network_check.proofs.breaches.place_behind.Given as goal

abbrev pub invariant-loop-place : goal.invariant-loop-place
invariant-loop-place l = l.place + place_behind l.left (drop l.place l.text) ≡ place_behind l.ends l.text
