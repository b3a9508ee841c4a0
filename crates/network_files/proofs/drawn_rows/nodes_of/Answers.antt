use Rattle.std.proofs.Common.{◌∙◌, arith}
use Rattle.network_files.proofs.DrawnRowLemmas.{all_nodes, one_node_more}
use Rattle.network_files.proofs.drawn_rows.nodes_of.Goals as goal

pub loop-number-preserved : goal.loop-number-preserved
loop-number-preserved c =
    let so_far = c.loop-number.invariant in
    one_node_more c.args.domain c.loop-number.number so_far.0 c.loop-number.nodes.items c.push.new.self.items c.node.result so_far.1 so_far.2 c.in_ok-push.ensures.items c.node.ensures

pub returns : goal.returns
returns c =
    let so_far = c.loop-number.invariant in
    c.from_vec.ensures ∙ all_nodes c.args.domain so_far.0 c.loop-number.nodes.items (omega (arith, so_far.1, c.loop-number-test.false, c.loop-number.auto.number)) so_far.2
