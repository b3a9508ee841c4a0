use Rattle.te_text.proofs.LinesOfRows.{row_within}
use Rattle.te_text.proofs.read.read_topology.Goals as goal

pub line_of-requires : goal.line_of-requires
line_of-requires c =
    row_within c.args.bytes.now c.in_ok-parts.field-0 c.in-Err-Rule.fault c.in-Err-Rule.row c.in_ok-parts.ensures (rw c.in-Err-Rule.field-0-is at c.in-Err-Rule.ensures.refused)
