use Rattle.std.proofs.Common.{◌≡◌, map, take}
use Rattle.pce_element.proofs.answering.segments_in.Given as goal

abbrev pub invariant-loop-row : goal.invariant-loop-row
invariant-loop-row g l = l.segments ≡ map g.W.World.stands (take l.row-index l.best)
