use Rattle.std.proofs.Common.{◌∙◌, sym, refl}
use Rattle.te_text.specs.TopologyText.{rows_in_order}
use Rattle.te_deltas.proofs.SeenLemmas.{eq_told, has_hit, has_miss}
use Rattle.te_deltas.proofs.seen.stands_in.Goals as goal

pub returns-then-eq : goal.returns-then-eq
returns-then-eq c =
    let list = rows_in_order c.args.topology.now in
    sym (has_hit c.args.name list c.loop-place.place c.name_in_order.result c.name_in_order.ensures (eq_told c.args.name c.name_in_order.result c.name_in_order.result c.eq.result c.eq.ensures refl ∙ c.if-eq.true))

pub loop-place-preserved : goal.loop-place-preserved
loop-place-preserved c =
    let list = rows_in_order c.args.topology.now in
    has_miss c.args.name list c.loop-place.place c.name_in_order.result c.loop-place.invariant c.name_in_order.ensures
    (eq_told c.args.name c.name_in_order.result c.name_in_order.result c.eq.result c.eq.ensures refl ∙ c.if-eq.false)
