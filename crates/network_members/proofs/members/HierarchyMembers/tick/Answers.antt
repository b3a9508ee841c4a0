use Rattle.std.proofs.Common.{◌∙◌, sym, ap, subst}
use Rattle.pce_common.specs.Membership.{KeysBefore, expired}
use Rattle.network_members.specs.Tiers.{Tiers, members_of, lost_in, standing_of}
use Rattle.network_members.specs.TierFields.{tiers_of}
use Rattle.network_members.proofs.StepLemmas.{stands_as}
use Rattle.network_members.proofs.TickLemmas.{are_before, goes_ticked, set_ticked}
use Rattle.network_members.proofs.members.HierarchyMembers.tick.Goals as goal

pub tick-requires : goal.tick-requires
tick-requires g c = are_before g.W.World.first c.args.now.0 (tiers_of c.self.inside.network c.self.inside.clock.0 c.self.inside.elements c.self.inside.parent) c.self.invariant (subst (λ (t : Tiers _ _). KeysBefore c.args.now.0 t.network (members_of g.W.World.first t)) (sym c.self.view_is) c.requires)

pub invariant_of-self : goal.invariant_of-self
invariant_of-self g c = set_ticked g.W.World.first c.args.now.0 (tiers_of c.self.inside.network c.self.inside.clock.0 c.self.inside.elements c.self.inside.parent) c.tick.new.self c.tick.ensures c.self.invariant

pub returns : goal.returns
returns g c =
    let t = tiers_of c.self.inside.network c.self.inside.clock.0 c.self.inside.elements c.self.inside.parent in
    stands_as g.W.World.first t _ (expired c.args.now.0 (members_of g.W.World.first t)) (lost_in t) (goes_ticked g.W.World.first c.args.now.0 t c.tick.new.self c.tick.ensures)
    ∙ ap (λ (u : Tiers _ _). record (standing_of g.W.World.first u) { seen = expired c.args.now.0 (members_of g.W.World.first u) }) c.self.view_is
