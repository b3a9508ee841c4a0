use Rattle.std.proofs.Common.{inr, rules}
use Rattle.diverse_pairs.specs.Uses.{marks_of}
use Rattle.diverse_pairs.specs.Listed.{listed}
use Rattle.diverse_pairs.proofs.Walking.{one_further, arrived}
use Rattle.diverse_pairs.proofs.lowest.lowest_path.Goals as goal

pub loop-here-preserved : goal.loop-here-preserved
loop-here-preserved c =
    let step = c.first_from-step.ensures in
    record {
      way = rw c.in_ok-push.ensures.items
          (one_further (listed c.args.arcs.now) (marks_of c.args.uses.now (listed c.args.arcs.now)) c.args.source c.loop-here.path.items c.loop-here.here c.first_from-step.result.arc c.first_from-step.result.head c.args.target
          c.loop-here.invariant.way (search rules) step);
      stands = inr (record { place = c.first_from-step.result.arc; arc = step.arc; is_arc = step.is_arc; used = step.used; head = step.same_head });
    }

pub returns : goal.returns
returns c = arrived (listed c.args.arcs.now) (marks_of c.args.uses.now (listed c.args.arcs.now)) c.args.source c.loop-here.path.items c.loop-here.here c.args.target c.loop-here.invariant.way (search rules)
