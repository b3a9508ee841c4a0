use Rattle.std.proofs.Common.{◌∙◌}
use Rattle.network_members.proofs.TickLemmas.{owns_ticked}
use Rattle.network_members.proofs.elements.Elements.tick.Goals as goal

pub invariant_of-self : goal.invariant_of-self
invariant_of-self g c = owns_ticked g.W.World.first c.args.now.0 c.self.inside.items.items c.tick_all.new.items.items c.tick_all.ensures ∙ c.self.invariant
