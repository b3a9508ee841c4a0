use Rattle.std.proofs.Common.{arith}
use Rattle.network_files.proofs.DrawnRowLemmas.{all_spans, one_turn_more}
use Rattle.network_files.proofs.drawn_rows.spans.Goals as goal

pub loop-to-preserved : goal.loop-to-preserved
loop-to-preserved c =
    let so_far = c.loop-to.invariant in
    one_turn_more c.loop-to.to so_far.0 c.loop-to.found.items c.add_spans.new.into.items so_far.1 so_far.2 c.in_ok-add_spans.ensures

pub returns : goal.returns
returns c =
    let so_far = c.loop-to.invariant in
    all_spans so_far.0 c.loop-to.found.items (omega (arith, so_far.1, c.loop-to-test.false, c.loop-to.auto.to)) so_far.2
