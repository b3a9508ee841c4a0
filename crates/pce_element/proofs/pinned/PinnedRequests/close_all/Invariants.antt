use Rattle.std.proofs.Common.{◌≤◌, take, length}
use Rattle.pce_element.specs.Leaving.{SameButSpare}
use Rattle.pce_element.specs.Changes.{all_closed}
use Rattle.pce_element.proofs.pinned.PinnedRequests.close_all.Given as goal

abbrev pub invariant-loop-number : goal.invariant-loop-number
invariant-loop-number g l = record {
  closed : SameButSpare (record l.initial.self { pending = all_closed (take l.number-index l.numbers) l.initial.self.pending }) l.self;
  fewer : length l.self.pending.rows ≤ length l.initial.self.pending.rows;
}
