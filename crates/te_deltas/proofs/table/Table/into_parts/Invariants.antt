use Rattle.std.proofs.Common.{◌≡◌, ◌++◌, length}
use Rattle.std.specs.Vec.Iter.{into_iter_items, into_iter_len}
use Rattle.te_links.specs.Faults.{rows_of_parts}
use Rattle.te_deltas.specs.Changes.{rows_of}
use Rattle.te_deltas.specs.Slots.{live}
use Rattle.te_deltas.proofs.table.Table.into_parts.Given as goal

abbrev pub invariant-loop-slot : goal.invariant-loop-slot
invariant-loop-slot l = record {
  whole : l.yielded ++ into_iter_items l.slot-iterator ≡ l.self-inside.slots.items;
  left : into_iter_len l.slot-iterator ≡ length (into_iter_items l.slot-iterator);
  parts : rows_of_parts l.parts ≡ rows_of l.fn.own (live l.yielded);
}
