use Rattle.network_members.specs.Tiers.{lost_in, members_of}
use Rattle.network_members.proofs.StepLemmas.{stands_as}
use Rattle.network_members.proofs.members.HierarchyMembers.next_lost.Goals as goal

pub returns-then-is_parent-clause-same : goal.returns-then-is_parent-clause-same
returns-then-is_parent-clause-same g c =
    let t = c.args.self.now in
    let u = c.next_lost_above.new.self in
    stands_as g.W.World.first t u (members_of g.W.World.first t) (lost_in u) c.next_lost_above.ensures.rest

pub returns-else-is_parent-clause-same : goal.returns-else-is_parent-clause-same
returns-else-is_parent-clause-same g c =
    let t = c.args.self.now in
    let u = c.next_lost_below.new.self in
    stands_as g.W.World.first t u (members_of g.W.World.first t) (lost_in u) c.next_lost_below.ensures.rest
