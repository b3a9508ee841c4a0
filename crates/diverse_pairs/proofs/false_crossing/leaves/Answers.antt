use Rattle.diverse_pairs.proofs.Leaving.{leave_told, stay_told}
use Rattle.diverse_pairs.proofs.false_crossing.leaves.Goals as goal

pub returns-then-starts_inside : goal.returns-then-starts_inside
returns-then-starts_inside c =
    leave_told c.args.topology.now c.args.query.now c.args.nodes.now c.args.index c.in-Some.link.now c.stands-starts_inside.result c.stands-ends_inside.result c.in-Some.ensures
    c.stands-starts_inside.ensures c.stands-ends_inside.ensures c.if-starts_inside.true

pub returns-else-starts_inside : goal.returns-else-starts_inside
returns-else-starts_inside c =
    stay_told c.args.topology.now c.args.query.now c.args.nodes.now c.args.index c.in-Some.link.now c.stands-starts_inside.result c.in-Some.ensures c.stands-starts_inside.ensures c.if-starts_inside.false
