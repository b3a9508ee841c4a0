use Rattle.std.proofs.Common.{subst}
use Rattle.pce_common.specs.Membership.{with_element}
use Rattle.network_members.specs.Tiers.{Tiers, Become, members_of, lost_in}
use Rattle.network_members.specs.TierFields.{tiers_of}
use Rattle.network_members.proofs.TierLemmas.{set_below}
use Rattle.network_members.proofs.StepLemmas as step
use Rattle.network_members.proofs.hierarchy.Hierarchy.make_below.Goals as goal

pub invariant_of-self : goal.invariant_of-self
invariant_of-self g c = set_below c.args.at (λ l. record l { element = c.args.plan.taken.element }) (tiers_of c.self.inside.network c.self.inside.clock.0 c.self.inside.elements c.self.inside.parent) c.make.new.self c.make.ensures c.self.invariant

pub returns : goal.returns
returns g c =
    let t = tiers_of c.self.inside.network c.self.inside.clock.0 c.self.inside.elements c.self.inside.parent in
    subst (λ (u : Tiers _ _). Become g.W.World.first u (with_element c.args.at c.args.plan.taken.element (members_of g.W.World.first u)) (lost_in u) (record t { elements = c.make.new.self })) c.self.view_is
    (step.makes_below g.W.World.first g.W.World.show c.args.at c.args.plan.taken.element t c.make.new.self c.make.ensures c.requires.below)
