use Rattle.std.proofs.Common.{arith}
use Rattle.network_files.proofs.DrawnRowLemmas.{all_spans_to, one_span_more}
use Rattle.network_files.proofs.drawn_rows.add_spans.Goals as goal

pub loop-from-preserved : goal.loop-from-preserved
loop-from-preserved c =
    let so_far = c.loop-from.invariant in
    one_span_more c.args.to c.loop-from.from so_far.0 c.args.into.now.items c.loop-from.into.items c.add_span.new.into.items so_far.1 so_far.2 c.in_ok-add_span.ensures

pub returns : goal.returns
returns c =
    let so_far = c.loop-from.invariant in
    all_spans_to c.args.to so_far.0 c.args.into.now.items c.loop-from.into.items (omega (arith, so_far.1, c.loop-from-test.false, c.loop-from.auto.from)) so_far.2
