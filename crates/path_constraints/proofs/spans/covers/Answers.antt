use Rattle.path_constraints.proofs.SpanOrder.{found}
use Rattle.path_constraints.proofs.spans.covers.Goals as goal

pub returns-then-place-gt0 : goal.returns-then-place-gt0
returns-then-place-gt0 c = found c.args.spans.now c.args.addr c.place_of-place.result _ c.le.result c.requires c.place_of-place.ensures c.if-place-gt0.true c.le.ensures
