use Rattle.std.proofs.Common.{take}
use Rattle.te_links.proofs.Counting.{Covers}
use Rattle.te_links.proofs.survey.few_up_to.Given as goal

abbrev pub invariant-loop-i : goal.invariant-loop-i
invariant-loop-i l = Covers (take l.i l.addrs) l.different.items l.most
