use Rattle.std.proofs.Common.{◌≡◌, ◌∙◌, true, sym, ap, subst}
use Rattle.plant_text.specs.Settings.{is_element}
use Rattle.pce_common.specs.plant_model.Names.{set_as}
use Rattle.pce_common.specs.Membership.{fallen, lost_at}
use Rattle.network_members.specs.Tiers.{Tiers, Become, members_of, lost_in}
use Rattle.network_members.specs.TierFields.{tiers_of}
use Rattle.network_members.proofs.TierLemmas.{set_below}
use Rattle.network_members.proofs.StepLemmas as step
use Rattle.network_members.proofs.hierarchy.Hierarchy.down_below.Goals as goal

pub down-requires : goal.down-requires
down-requires g c = step.has_element g.W.World.first g.W.World.show (tiers_of c.self.inside.network c.self.inside.clock.0 c.self.inside.elements c.self.inside.parent) c.args.at c.self.invariant (subst (λ (t : Tiers _ _). is_element t.network c.args.at ≡ true) (sym c.self.view_is) c.requires.there)

pub invariant_of-self : goal.invariant_of-self
invariant_of-self g c = set_below c.args.at _ (tiers_of c.self.inside.network c.self.inside.clock.0 c.self.inside.elements c.self.inside.parent) c.down.new.self c.down.ensures c.self.invariant

pub returns : goal.returns
returns g c =
    let t = tiers_of c.self.inside.network c.self.inside.clock.0 c.self.inside.elements c.self.inside.parent in
    subst (λ (u : Tiers _ _). Become g.W.World.first u (fallen c.args.at c.args.peer (members_of g.W.World.first u)) (set_as c.args.at (lost_at c.args.at c.args.peer (members_of g.W.World.first u)) (lost_in u)) (record t { elements = c.down.new.self })) c.self.view_is
    (step.falls_below g.W.World.first g.W.World.show c.args.at c.args.peer t c.down.new.self c.down.ensures c.requires.below (ap (λ (u : Tiers _ _). lost_in u c.args.at) c.self.view_is ∙ c.requires.none))
