use Rattle.dom_base.specs.declared.names.As.{As}
use Rattle.network_serving.proofs.Plans.{links_more}
use Rattle.network_serving.proofs.planning.add_links.Goals as goal

pub loop-i-preserved : goal.loop-i-preserved
loop-i-preserved c =
    let none : As × As = (record { 0 = 0 }, record { 0 = 0 }) in
    links_more c.args.ways.now c.args.links.now c.loop-i.i none c.loop-i.ways c.push_both.new.ways c.loop-i-test.true c.loop-i.invariant c.in_ok-push_both.ensures
