use Rattle.dom_base.specs.declared.names.As.{As}
use Rattle.network_serving.proofs.Plans.{children_more}
use Rattle.network_serving.proofs.planning.add_children.Goals as goal

pub loop-i-preserved : goal.loop-i-preserved
loop-i-preserved c =
    let none : As = record { 0 = 0 } in
    children_more c.args.ways.now c.args.children.now c.loop-i.i none c.loop-i.ways c.push_both.new.ways c.loop-i-test.true c.loop-i.invariant c.in_ok-push_both.ensures
