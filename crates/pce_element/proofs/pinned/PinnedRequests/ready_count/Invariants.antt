use Rattle.std.proofs.Common.{◌≡◌, ◌≤◌, ◌+◌, length, drop}
use Rattle.pce_common.specs.plant_model.Element.{ready_numbers}
use Rattle.pce_element.proofs.pinned.PinnedRequests.ready_count.Given as goal

abbrev pub invariant-loop-i : goal.invariant-loop-i
invariant-loop-i g l = record {
  all : l.count + length (ready_numbers (drop l.i l.self.pending.rows)) ≡ length (ready_numbers l.self.pending.rows);
  few : l.count ≤ l.i;
}
