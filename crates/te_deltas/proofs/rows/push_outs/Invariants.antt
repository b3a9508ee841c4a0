use Rattle.std.proofs.Common.{◌≡◌, ◌++◌, length, take, map}
use Rattle.te_text.specs.declared.row.TextRow.TheVariants as rows
use Rattle.te_deltas.proofs.rows.push_outs.Given as goal

abbrev pub invariant-loop-i : goal.invariant-loop-i
invariant-loop-i l = record {
  whole : l.i-end ≡ length l.topology.outs;
  rows : l.into.items ≡ l.initial.into.items ++ map (λ x. rows.Out x) (take l.i l.topology.outs);
}
