use Rattle.std.proofs.Common.{◌≡◌, ◌∙◌, true, sym, ap, subst}
use Rattle.pce_common.specs.Membership.{is_member}
use Rattle.pce_common.specs.Owed.{owed}
use Rattle.network_members.specs.Tiers.{Tiers, members_of}
use Rattle.network_members.specs.TierFields.{tiers_of}
use Rattle.network_members.proofs.StepLemmas.{has_element, member_below, owed_below}
use Rattle.network_members.proofs.members.HierarchyMembers.owed.Goals as goal

pub owed-requires-else-is_parent : goal.owed-requires-else-is_parent
owed-requires-else-is_parent g c =
    let t = tiers_of c.self.inside.network c.self.inside.clock.0 c.self.inside.elements c.self.inside.parent in
    has_element g.W.World.first g.W.World.show t c.args.at c.self.invariant
    (member_below g.W.World.first g.W.World.show t c.args.at (sym c.is_parent.ensures ∙ c.if-is_parent.false) (subst (λ (u : Tiers _ _). is_member u.network c.args.at ≡ true) (sym c.self.view_is) c.requires))

pub returns-else-is_parent : goal.returns-else-is_parent
returns-else-is_parent g c =
    let t = tiers_of c.self.inside.network c.self.inside.clock.0 c.self.inside.elements c.self.inside.parent in
    owed_below g.W.World.first g.W.World.show t c.args.at c.args.peer c.owed-else-is_parent.result (sym c.is_parent.ensures ∙ c.if-is_parent.false) c.self.invariant
    (member_below g.W.World.first g.W.World.show t c.args.at (sym c.is_parent.ensures ∙ c.if-is_parent.false) (subst (λ (u : Tiers _ _). is_member u.network c.args.at ≡ true) (sym c.self.view_is) c.requires))
    c.owed-else-is_parent.ensures
    ∙ ap (λ (u : Tiers _ _). owed c.args.at c.args.peer (members_of g.W.World.first u)) c.self.view_is
