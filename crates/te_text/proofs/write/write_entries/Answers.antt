use Rattle.te_text.specs.declared.row.TextRow.TheVariants as rows
use Rattle.te_text.specs.TopologyText.{IsWritten}
use Rattle.te_text.specs.Spelled.{row_text}
use Rattle.te_text.proofs.Listing.{rows_more, all_more}
use Rattle.te_text.proofs.write.write_entries.Goals as goal

pub loop-i-preserved : goal.loop-i-preserved
loop-i-preserved c =
    let entries = c.args.topology.now.entries in
    let so_far = c.loop-i.invariant in
    let more = c.in_ok-write_entry.ensures in
    record {
      whole = so_far.whole;
      written = rows_more (λ x. row_text (rows.Entry x)) c.args.into.now.items c.loop-i.into.items c.write_entry.new.into.items entries c.loop-i.i c.entry_at.result c.entry_at.ensures so_far.written more.ok;
      again = all_more (λ x. IsWritten (rows.Entry x)) entries c.loop-i.i c.entry_at.result c.entry_at.ensures so_far.again more.again;
    }
