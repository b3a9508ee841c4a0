use Rattle.network_members.specs.Tiers.{lost_in, members_of}
use Rattle.network_members.proofs.StepLemmas.{stands_as}
use Rattle.network_members.proofs.members.HierarchyMembers.take.Goals as goal

pub returns-then-is_parent-clause-same : goal.returns-then-is_parent-clause-same
returns-then-is_parent-clause-same g c =
    let t = c.args.self.now in
    let u = c.take_above.new.self in
    stands_as g.W.World.first t u (members_of g.W.World.first t) (lost_in t) c.take_above.ensures.same

pub returns-else-is_parent-clause-same : goal.returns-else-is_parent-clause-same
returns-else-is_parent-clause-same g c =
    let t = c.args.self.now in
    let u = c.take_below.new.self in
    stands_as g.W.World.first t u (members_of g.W.World.first t) (lost_in t) c.take_below.ensures.same
