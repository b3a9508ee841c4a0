use Rattle.std.proofs.Common.{subst}
use Rattle.pce_common.specs.plant_model.Parent.{upped}
use Rattle.pce_common.specs.Membership.{raised}
use Rattle.network_members.specs.Tiers.{Tiers, Become, members_of, lost_in}
use Rattle.network_members.specs.TierFields.{tiers_of}
use Rattle.network_members.proofs.TierLemmas.{set_above}
use Rattle.network_members.proofs.StepLemmas as step
use Rattle.network_members.proofs.hierarchy.Hierarchy.up_above.Goals as goal

pub invariant_of-self : goal.invariant_of-self
invariant_of-self g c = set_above (λ l. record l { parent = upped c.args.peer l.parent }) (tiers_of c.self.inside.network c.self.inside.clock.0 c.self.inside.elements c.self.inside.parent) c.up.new.self c.up.ensures c.self.invariant

pub returns : goal.returns
returns g c =
    let t = tiers_of c.self.inside.network c.self.inside.clock.0 c.self.inside.elements c.self.inside.parent in
    subst (λ (u : Tiers _ _). Become g.W.World.first u (raised c.args.at c.args.peer (members_of g.W.World.first u)) (lost_in u) (record t { parent = c.up.new.self })) c.self.view_is
    (step.rises_above g.W.World.first g.W.World.show c.args.at c.args.peer t c.up.new.self c.up.ensures c.requires)
