use Rattle.std.proofs.Common.{◌≡◌, take}
use Rattle.te_deltas.specs.Changes.{NoneBefore, rows_after}
use Rattle.te_deltas.proofs.making.make_all.Given as goal

abbrev pub invariant-loop-place : goal.invariant-loop-place
invariant-loop-place l = record {
  made : NoneBefore l.fn.table l.changes l.place;
  rows : l.table ≡ rows_after l.fn.table (take l.place l.changes);
}
