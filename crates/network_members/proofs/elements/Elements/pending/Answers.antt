use Rattle.std.proofs.Common.{◌∙◌, arith}
use Rattle.network_members.proofs.TickLemmas.{pending_next}
use Rattle.network_members.proofs.elements.Elements.pending.Goals as goal

pub loop-element-preserved : goal.loop-element-preserved
loop-element-preserved g c =
    let next = pending_next c.args.self.now c.deref-element-items.result.now c.loop-element.element-index c.element-item.result (c.deref-element-items.ensures.value ∙ c.self.view_is) c.loop-element-test.true c.element-item.is in
    let counted = c.pending-count.ensures.count in
    let few = c.pending-count.ensures.few in
    let so_far = c.loop-element.invariant.sum in
    let bound = c.loop-element.invariant.few in
    record { sum = omega (arith, next, counted, so_far); few = omega (arith, few, bound) }
