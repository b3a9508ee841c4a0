use Rattle.diverse_pairs.proofs.Along.{arcs_along}
use Rattle.diverse_pairs.proofs.solve.search.Goals as goal

pub distances-requires-clause-along : goal.distances-requires-clause-along
distances-requires-clause-along c =
    rw c.as_slice.ensures.value (arcs_along c.args.topology.now c.args.query.now c.in_ok-arcs.arcs.items c.own-own.ensures.rules c.in_ok-arcs.ensures)
