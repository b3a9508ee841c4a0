use Rattle.std.proofs.Common.{arith}
use Rattle.diverse_pairs.proofs.Nearest.{nearest_in_group}
use Rattle.diverse_pairs.proofs.waiting.nearest_among.Goals as goal

pub returns : goal.returns
returns c =
    let inv = c.loop-block.invariant in
    nearest_in_group c.args.distances.now c.args.nearest.now c.args.group c.loop-block.block c.loop-block.found c.requires.nearest (omega (arith, c.loop-block-test.false)) inv.below
    (record { from = inv.from; to = inv.to }) inv.least
