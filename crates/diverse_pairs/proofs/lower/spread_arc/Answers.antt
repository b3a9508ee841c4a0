use Rattle.diverse_pairs.specs.Listed.{listed}
use Rattle.diverse_pairs.proofs.Settling.{one_falls}
use Rattle.diverse_pairs.proofs.lower.spread_arc.Goals as goal

pub returns-then-lower : goal.returns-then-lower
returns-then-lower c =
    let a = c.in-Some.arc in
    record {
      spreads = rw c.put.ensures
          (one_falls (listed c.args.arcs.now) c.args._target c.args.node c.args.place a c.args.distances.now c.lower.new.distances c.args.waiting.now c.in-Some.ensures.0
          (c.requires.among c.args.place a c.in-Some.ensures.0) c.requires.as_long c.in-Some.ensures.1 c.if-lower.ensures.lowers);
    }
