use Rattle.std.proofs.Common.{arith}
use Rattle.te_links.specs.declared.fault.RowKind.TheVariants.{Out}
use Rattle.te_links.specs.Faults.{rows_of_parts}
use Rattle.te_links.proofs.Listed.{none_yet, none_more, none_of_outs, out_within, reason_of}
use Rattle.te_links.proofs.checks.check_outs.Goals as goal

pub loop-i-init : goal.loop-i-init
loop-i-init c = record { none = none_yet (rows_of_parts c.args.parts.now) Out; few = omega arith }

pub loop-i-preserved : goal.loop-i-preserved
loop-i-preserved c =
    let g = rows_of_parts c.args.parts.now in
    record {
      none = none_more g Out c.loop-i.i c.loop-i.invariant.none c.in_default.ensures;
      few = out_within g c.loop-i.i (omega (arith, c.len-i-end.ensures, c.loop-i-test.true)) c.in_default.ensures;
    }

pub returns : goal.returns
returns c = none_of_outs (rows_of_parts c.args.parts.now) c.loop-i.i (omega (arith, c.len-i-end.ensures, c.loop-i-test.false)) c.loop-i.invariant.none

pub returns-in-Some : goal.returns-in-Some
returns-in-Some c =
    reason_of (rows_of_parts c.args.parts.now) Out c.in-Some.fault c.loop-i.i c.refusal.result c.refusal.ensures c.in-Some.ensures.0 c.in-Some.ensures.1 c.loop-i.invariant.none
