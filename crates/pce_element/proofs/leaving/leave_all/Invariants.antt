use Rattle.std.proofs.Common.{◌≡◌, ◌≤◌, ◌+◌, ◌++◌, length, map, take, drop}
use Rattle.std.specs.Prelude.{filter}
use Rattle.std.specs.VecDeque.{deque_capacity, deque_len}
use Rattle.pce_common.specs.plant_model.Element.{stays, is_lost, lost_of}
use Rattle.pce_element.specs.Leaving.{SameButSpare, with_rows}
use Rattle.pce_element.proofs.leaving.leave_all.Given as goal

abbrev pub invariant-loop-turn : goal.invariant-loop-turn
invariant-loop-turn g l = record {
  rows : SameButSpare (with_rows (filter (stays l.peer) (take l._turn l.initial.requests.pending.rows) ++ drop l._turn l.initial.requests.pending.rows) l.initial.requests) l.requests;
  place : l.k ≡ length (filter (stays l.peer) (take l._turn l.initial.requests.pending.rows));
  lost : l.gone.items ≡ l.initial.gone.items ++ map lost_of (filter (is_lost l.peer) (take l._turn l.initial.requests.pending.rows));
  room : deque_len l.gone + length l.requests.pending.rows ≤ deque_capacity l.gone;
}
