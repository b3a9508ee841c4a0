use Rattle.std.proofs.Common.{◌∙◌, ap, subst}
use Rattle.pce_common.specs.plant_model.Names.{set_as}
use Rattle.pce_common.specs.plant_model.Parent.{down_of}
use Rattle.pce_common.specs.Membership.{fallen, lost_at}
use Rattle.network_members.specs.Tiers.{Tiers, Become, members_of, lost_in}
use Rattle.network_members.specs.TierFields.{tiers_of}
use Rattle.network_members.proofs.TierLemmas.{set_above}
use Rattle.network_members.proofs.StepLemmas as step
use Rattle.network_members.proofs.hierarchy.Hierarchy.down_above.Goals as goal

pub invariant_of-self : goal.invariant_of-self
invariant_of-self g c = set_above (down_of c.args.peer) (tiers_of c.self.inside.network c.self.inside.clock.0 c.self.inside.elements c.self.inside.parent) c.down.new.self c.down.ensures c.self.invariant

pub returns : goal.returns
returns g c =
    let t = tiers_of c.self.inside.network c.self.inside.clock.0 c.self.inside.elements c.self.inside.parent in
    subst (λ (u : Tiers _ _). Become g.W.World.first u (fallen c.args.at c.args.peer (members_of g.W.World.first u)) (set_as c.args.at (lost_at c.args.at c.args.peer (members_of g.W.World.first u)) (lost_in u)) (record t { parent = c.down.new.self })) c.self.view_is
    (step.falls_above g.W.World.first g.W.World.show c.args.at c.args.peer t c.down.new.self c.down.ensures c.requires.above (ap (λ (u : Tiers _ _). lost_in u c.args.at) c.self.view_is ∙ c.requires.none))
