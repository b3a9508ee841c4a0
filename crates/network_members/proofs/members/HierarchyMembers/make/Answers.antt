use Rattle.std.proofs.Common.{◌∙◌, ap, sym}
use Rattle.pce_common.specs.Membership.{with_element, with_parent}
use Rattle.network_members.specs.Tiers.{lost_in, members_of, next_by, standing_of}
use Rattle.network_members.proofs.StepLemmas.{stands_as}
use Rattle.network_members.proofs.members.HierarchyMembers.make.Goals as goal

pub returns-in-Element : goal.returns-in-Element
returns-in-Element g c =
    let t = c.args.self.now in
    stands_as g.W.World.first t c.make_below.new.self (with_element c.in-Element.at c.in-Element.plan.taken.element (members_of g.W.World.first t)) (lost_in t) c.make_below.ensures
    ∙ ap (λ p. record (standing_of g.W.World.first t) { seen = next_by g.W.World.first t p }) (sym c.in-Element.is)

pub returns-in-Parent : goal.returns-in-Parent
returns-in-Parent g c =
    let t = c.args.self.now in
    stands_as g.W.World.first t c.make_above.new.self (with_parent c.in-Parent.plan.given.parent (members_of g.W.World.first t)) (lost_in t) c.make_above.ensures
    ∙ ap (λ p. record (standing_of g.W.World.first t) { seen = next_by g.W.World.first t p }) (sym c.in-Parent.is)
