use Rattle.std.proofs.Common.{◌≡◌, ◌<◌, ℕ, false}
use Rattle.network_serving.specs.Ports.{repeats}
use Rattle.network_serving.proofs.ports.first_repeat.Given as goal

abbrev pub invariant-loop-i : goal.invariant-loop-i
invariant-loop-i l = (k : ℕ) → k < l.i → repeats l.peers k ≡ false
