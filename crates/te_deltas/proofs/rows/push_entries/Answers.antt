use Rattle.std.proofs.Common.{arith}
use Rattle.te_text.specs.declared.row.TextRow.TheVariants as rows
use Rattle.te_deltas.proofs.GatherLemmas.{map_further, map_whole}
use Rattle.te_deltas.proofs.rows.push_entries.Goals as goal

pub loop-i-preserved : goal.loop-i-preserved
loop-i-preserved c =
    let so_far = c.loop-i.invariant in
    record {
      whole = so_far.whole;
      rows = map_further (λ x. rows.Entry x) c.args.topology.now.entries c.loop-i.i c.entry_at.result c.args.into.now.items c.loop-i.into.items c.push.new.self.items c.entry_at.ensures so_far.rows (c.in_ok-push.ensures.items);
    }

pub returns : goal.returns
returns c = map_whole (λ x. rows.Entry x) c.args.topology.now.entries c.loop-i.i c.args.into.now.items c.loop-i.into.items (omega (arith, c.loop-i.invariant.whole)) c.loop-i.invariant.rows
