use Rattle.te_text.specs.declared.row.TextRow.TheVariants as rows
use Rattle.te_text.specs.TopologyText.{IsWritten}
use Rattle.te_text.specs.Spelled.{row_text}
use Rattle.te_text.proofs.Listing.{rows_more, all_more}
use Rattle.te_text.proofs.write.write_links.Goals as goal

pub loop-i-preserved : goal.loop-i-preserved
loop-i-preserved c =
    let links = c.args.topology.now.links in
    let so_far = c.loop-i.invariant in
    let more = c.in_ok-write_link.ensures in
    record {
      whole = so_far.whole;
      written = rows_more (λ x. row_text (rows.Link x)) c.args.into.now.items c.loop-i.into.items c.write_link.new.into.items links c.loop-i.i c.link_at.result.now c.link_at.ensures so_far.written more.ok;
      again = all_more (λ x. IsWritten (rows.Link x)) links c.loop-i.i c.link_at.result.now c.link_at.ensures so_far.again more.again;
    }
