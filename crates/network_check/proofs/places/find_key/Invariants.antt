use Rattle.std.proofs.Common.{◌≡◌, length}
use Rattle.network_check.specs.Places.{key_in}
use Rattle.network_check.proofs.places.find_key.Given as goal

abbrev pub invariant-loop-line : goal.invariant-loop-line
invariant-loop-line l = key_in l.key l.lines ≡ key_in l.key l.initial.lines

abbrev pub decreases-loop-line : goal.decreases-loop-line
decreases-loop-line l = length l.lines
