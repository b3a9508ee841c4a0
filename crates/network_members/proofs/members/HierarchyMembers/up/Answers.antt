use Rattle.pce_common.specs.Membership.{raised}
use Rattle.network_members.specs.Tiers.{lost_in, members_of}
use Rattle.network_members.proofs.StepLemmas.{stands_as}
use Rattle.network_members.proofs.members.HierarchyMembers.up.Goals as goal

pub returns-then-is_parent : goal.returns-then-is_parent
returns-then-is_parent g c =
    let t = c.args.self.now in
    let u = c.up_above.new.self in
    stands_as g.W.World.first t u (raised c.args.at c.args.peer (members_of g.W.World.first t)) (lost_in t) c.up_above.ensures

pub returns-else-is_parent : goal.returns-else-is_parent
returns-else-is_parent g c =
    let t = c.args.self.now in
    let u = c.up_below.new.self in
    stands_as g.W.World.first t u (raised c.args.at c.args.peer (members_of g.W.World.first t)) (lost_in t) c.up_below.ensures
