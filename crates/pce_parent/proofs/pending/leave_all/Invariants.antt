use Rattle.std.proofs.Common.{◌≤◌, ◌+◌, length}
use Rattle.std.specs.VecDeque.{deque_capacity, deque_len}
use Rattle.pce_parent.proofs.Leaving.{Left}
use Rattle.pce_parent.proofs.pending.leave_all.Given as goal

abbrev pub invariant-loop-turn : goal.invariant-loop-turn
invariant-loop-turn l = record {
  left : Left l.peer l.initial.requests.kept l.initial.gone.items l._turn l.k l.requests.kept l.gone.items;
  room : deque_len l.gone + length l.requests.kept.rows ≤ deque_capacity l.gone;
}
