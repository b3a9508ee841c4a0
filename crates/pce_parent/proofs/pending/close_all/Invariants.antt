use Rattle.std.proofs.Common.{◌≡◌, ◌≤◌, take, length}
use Rattle.pce_parent.specs.Changes.{all_closed}
use Rattle.pce_parent.proofs.pending.close_all.Given as goal

abbrev pub invariant-loop-number : goal.invariant-loop-number
invariant-loop-number l = record {
  kept : l.requests.kept ≡ all_closed (take l.number-index l.numbers) l.initial.requests.kept;
  fewer : length l.requests.kept.rows ≤ length l.initial.requests.kept.rows;
}
