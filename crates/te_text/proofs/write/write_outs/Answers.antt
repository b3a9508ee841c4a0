use Rattle.te_text.specs.declared.row.TextRow.TheVariants as rows
use Rattle.te_text.specs.TopologyText.{IsWritten}
use Rattle.te_text.specs.Spelled.{row_text}
use Rattle.te_text.proofs.Listing.{rows_more, all_more}
use Rattle.te_text.proofs.write.write_outs.Goals as goal

pub loop-i-preserved : goal.loop-i-preserved
loop-i-preserved c =
    let outs = c.args.topology.now.outs in
    let so_far = c.loop-i.invariant in
    let more = c.in_ok-write_out.ensures in
    record {
      whole = so_far.whole;
      written = rows_more (λ x. row_text (rows.Out x)) c.args.into.now.items c.loop-i.into.items c.write_out.new.into.items outs c.loop-i.i c.out_at.result.now c.out_at.ensures so_far.written more.ok;
      again = all_more (λ x. IsWritten (rows.Out x)) outs c.loop-i.i c.out_at.result.now c.out_at.ensures so_far.again more.again;
    }
