use Rattle.std.proofs.Common.{◌≡◌, length, slice_get}
use Rattle.network_check.specs.Places.{headed}
use Rattle.network_check.proofs.Placing.{IsRest}
use Rattle.network_check.proofs.places.seek.Given as goal

abbrev pub invariant-loop-line : goal.invariant-loop-line
invariant-loop-line l = record {
  row : slice_get (headed l.header l.lines) l.left ≡ slice_get (headed l.header l.initial.lines) l.fn.index;
  rest : IsRest l.initial.lines l.lines;
}

abbrev pub decreases-loop-line : goal.decreases-loop-line
decreases-loop-line l = length l.lines
