use Rattle.network_members.specs.Becoming.{TickedTo}
use Rattle.network_members.proofs.counting.tick_all.Given as goal

abbrev pub invariant-loop-i : goal.invariant-loop-i
invariant-loop-i g l = TickedTo l.now.0 l.i l.initial.items.items l.items.items
