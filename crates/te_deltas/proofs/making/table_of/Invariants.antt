use Rattle.std.proofs.Common.{◌≡◌, ◌++◌, length}
use Rattle.std.specs.Vec.Iter.{into_iter_items, into_iter_len}
use Rattle.te_text.specs.TopologyText.{rows_in_order}
use Rattle.te_deltas.proofs.making.table_of.Given as goal

abbrev pub invariant-loop-row : goal.invariant-loop-row
invariant-loop-row l = record {
  whole : l.yielded ++ into_iter_items l.row-iterator ≡ rows_in_order l.topology;
  left : into_iter_len l.row-iterator ≡ length (into_iter_items l.row-iterator);
  rows : l.table ≡ l.yielded;
}
