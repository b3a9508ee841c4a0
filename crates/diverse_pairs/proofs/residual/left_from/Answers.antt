use Rattle.diverse_pairs.proofs.Listed.{none_from, elsewhere_from, found_from}
use Rattle.diverse_pairs.proofs.residual.left_from.Goals as goal

pub returns-in_default : goal.returns-in_default
returns-in_default c = none_from c.args.arcs.now c.args.distances.now c.args.in_use.now c.args.place c.args.node c.in_default.is

pub returns-then-end_of-node : goal.returns-then-end_of-node
returns-then-end_of-node c =
    elsewhere_from c.args.arcs.now c.args.distances.now c.args.in_use.now c.args.place c.args.node c.in-Some.arc c.in-Some.is (rw c.end_of.ensures at c.if-end_of-node.true)

pub returns : goal.returns
returns c =
    found_from c.args.arcs.now c.args.distances.now c.args.in_use.now c.args.place c.args.node c.in-Some.arc c.in-Some.is (rw c.end_of.ensures at c.if-end_of-node.false) c.residual_arc.result
    c.residual_arc.ensures
