use Rattle.std.proofs.Common.{◌∙◌, sym}
use Rattle.network_check.specs.Compare.{is_out}
use Rattle.network_check.proofs.Steps.{one_is, one_is_not}
use Rattle.network_check.proofs.compare.has_out.Goals as goal

pub returns-then-is_out : goal.returns-then-is_out
returns-then-is_out c =
    sym (one_is (is_out c.args.node c.args.to) c.args.topology.now.outs c.loop-i.i c.out_at.result.now c.out_at.ensures (sym c.is_out.ensures ∙ c.if-is_out.true)) ∙ c.loop-i.invariant.same

pub loop-i-preserved : goal.loop-i-preserved
loop-i-preserved c = record {
  whole = c.loop-i.invariant.whole;
  same = one_is_not (is_out c.args.node c.args.to) c.args.topology.now.outs c.loop-i.i c.out_at.result.now c.out_at.ensures (sym c.is_out.ensures ∙ c.if-is_out.false) ∙ c.loop-i.invariant.same;
}
