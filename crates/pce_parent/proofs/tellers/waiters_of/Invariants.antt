use Rattle.std.proofs.Common.{take}
use Rattle.pce_common.specs.Waiting.{AreSaidOf, numbers_waiting}
use Rattle.pce_parent.specs.Tellers.{waits_under}
use Rattle.pce_parent.proofs.tellers.waiters_of.Given as goal

abbrev pub invariant-loop-i : goal.invariant-loop-i
invariant-loop-i l = AreSaidOf (numbers_waiting (waits_under l.peer) (take l.i l.requests.kept.rows)) l.waiters
