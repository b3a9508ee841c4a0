use Rattle.std.proofs.Common.{arith}
use Rattle.dom_base.proofs.Powers.{doubled}
use Rattle.dom_base.proofs.cost.word_with.Goals as goal

pub loop-whole-preserved : goal.loop-whole-preserved
loop-whole-preserved c =
    let inv = c.loop-whole.invariant in
    record {
      value = doubled c.loop-whole.whole c.loop-whole.exponent c.args.number inv.value inv.positive inv.small;
      positive = inv.positive;
      some = omega arith;
      small = omega arith;
      bound = omega arith;
    }
