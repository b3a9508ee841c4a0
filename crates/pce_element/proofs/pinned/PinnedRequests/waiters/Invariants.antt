use Rattle.std.proofs.Common.{take}
use Rattle.pce_common.specs.Waiting.{AreSaidOf, numbers_waiting}
use Rattle.pce_element.specs.Tellers.{waits_under}
use Rattle.pce_element.proofs.pinned.PinnedRequests.waiters.Given as goal

abbrev pub invariant-loop-k : goal.invariant-loop-k
invariant-loop-k g l = AreSaidOf (numbers_waiting (waits_under l.peer) (take l.k l.self.pending.rows)) l.waiters
