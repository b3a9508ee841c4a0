use Rattle.std.proofs.Common.{◌≡◌, ◌++◌, length, take}
use Rattle.std.specs.List.{flat_map, All}
use Rattle.te_text.specs.declared.row.TextRow.TheVariants as rows
use Rattle.te_text.specs.TopologyText.{IsWritten}
use Rattle.te_text.specs.Spelled.{row_text}
use Rattle.te_text.proofs.write.write_links.Given as goal

abbrev pub invariant-loop-i : goal.invariant-loop-i
invariant-loop-i l = record {
  whole : l.i-end ≡ length l.topology.links;
  written : l.into.items ≡ l.initial.into.items ++ flat_map (λ x. row_text (rows.Link x)) (take l.i l.topology.links);
  again : All (λ x. IsWritten (rows.Link x)) (take l.i l.topology.links);
}
