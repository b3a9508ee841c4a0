use Rattle.std.proofs.Common.{arith}
use Rattle.te_deltas.proofs.SeenLemmas.{entry_named, rows_counted}
use Rattle.te_deltas.proofs.seen.name_in_order.Goals as goal

pub overflow_cast-place-2 : goal.overflow_cast-place-2
overflow_cast-place-2 c =
    omega (arith, rows_counted c.args.topology.now, c.requires, c.node_count-nodes.ensures.count, c.link_count-links.ensures.count, c.out_count-outs.ensures.count, c.entry_count-entries.ensures.count, c.entry_count-entries.type_inv)

pub returns : goal.returns
returns c =
    entry_named c.args.topology.now c.args.place _ c.entry_at.result
    (omega (arith, c.node_count-nodes.ensures.count, c.link_count-links.ensures.count, c.out_count-outs.ensures.count, c.if-place-nodes.false, c.if-place-nodes-2.false, c.if-place-nodes-3.false)) c.entry_at.ensures
