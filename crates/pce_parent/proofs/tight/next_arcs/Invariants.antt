use Rattle.std.proofs.Common.{take}
use Rattle.pce_parent.specs.Tight.{AreChosen}
use Rattle.pce_parent.proofs.tight.next_arcs.Given as goal

abbrev pub invariant-loop-arc : goal.invariant-loop-arc
invariant-loop-arc l = AreChosen (take l.arc-index l.arcs) l.costs l.next.items
