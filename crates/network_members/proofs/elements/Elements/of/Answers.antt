use Rattle.std.proofs.Common.{◌∙◌}
use Rattle.network_members.proofs.FreshLemmas.{owns_new}
use Rattle.network_members.proofs.elements.Elements.of.Goals as goal

pub invariant_of-result : goal.invariant_of-result
invariant_of-result g c = owns_new g.W.World.first c.args.parts.now c.deref.result.now c.in_ok-items.items.items c.in_ok-items.ensures ∙ c.deref.ensures.value
