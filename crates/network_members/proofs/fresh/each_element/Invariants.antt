use Rattle.std.proofs.Common.{take}
use Rattle.network_members.specs.Fresh.{AreNew}
use Rattle.network_members.proofs.fresh.each_element.Given as goal

abbrev pub invariant-loop-own : goal.invariant-loop-own
invariant-loop-own g l = AreNew g.W.World.first l.parts (take l.own-index l.domains) l.items.items
