use Rattle.std.proofs.Common.{◌≡◌, ◌<◌, ◌∙◌, false, ap, sym, length, subst, replicate, rules, arith}
use Rattle.std.specs.Prelude.{All}
use Rattle.diverse_pairs.proofs.Flow.{length_turned}
use Rattle.diverse_pairs.proofs.Along.{arcs_along, residual_along}
use Rattle.diverse_pairs.proofs.Beginning.{searched_among, walk_fits}
use Rattle.diverse_pairs.proofs.Listed.{left_residual}
use Rattle.diverse_pairs.specs.Residual.{left_arcs}
use Rattle.diverse_pairs.proofs.solve.walk.Goals as goal

pub tight_path-requires-clause-among : goal.tight_path-requires-clause-among
tight_path-requires-clause-among c = searched_among c.args.topology.now c.args._query.now c.args.to c.args.arcs.now c.args.first.now c.requires.rules c.requires.searched

pub tight_path-requires-clause-along : goal.tight_path-requires-clause-along
tight_path-requires-clause-along c = arcs_along c.args.topology.now c.args._query.now c.args.arcs.now c.requires.rules c.requires.searched.are

pub turn-in_use-requires : goal.turn-in_use-requires
turn-in_use-requires c =
    let long : length c.in_ok-none.none.items ≡ length c.args.arcs.now = search rules in
    record { within = rw c.as_slice.ensures.value (subst (λ n. All (λ i. i < n) c.in_ok-path.path.items) (sym long) c.in_ok-path.ensures.within) }

pub distances-requires-clause-fits : goal.distances-requires-clause-fits
distances-requires-clause-fits c =
    let long : length c.in_ok-none.none.items ≡ length c.args.arcs.now = search rules in
    walk_fits c.args.topology.now c.args._query.now c.args.to c.args.arcs.now c.args.first.now c.as_slice-2.result.now c.requires.rules c.requires.searched
    (ap length c.as_slice-2.ensures.value ∙ ap length c.turn-in_use.ensures.turned ∙ length_turned c.as_slice.result.now c.in_ok-none.none.items ∙ long)

pub distances-requires-clause-along : goal.distances-requires-clause-along
distances-requires-clause-along c =
    residual_along c.args.topology.now c.args.arcs.now (left_arcs c.args.first.now c.as_slice-2.result.now c.args.arcs.now) c.args.first.now c.as_slice-2.result.now
    (arcs_along c.args.topology.now c.args._query.now c.args.arcs.now c.requires.rules c.requires.searched.are) (left_residual c.args.arcs.now c.args.first.now c.as_slice-2.result.now)

pub distances-requires-clause-target : goal.distances-requires-clause-target
distances-requires-clause-target c = omega (arith, c.requires.to, c.requires.searched.long)

pub returns : goal.returns
returns c =
    let none : c.in_ok-none.none.items ≡ replicate (length c.args.arcs.now) false = search rules in
    record {
      reached = c.requires.reached;
      turns = rw (c.turn-in_use.ensures.turned, c.as_slice.ensures.value, none) (c.in_ok-path.ensures.turns (replicate (length c.args.arcs.now) false));
      residual = left_residual c.args.arcs.now c.args.first.now c.turn-in_use.result.items;
      long = c.in_ok-distances.ensures.long ∙ sym c.requires.searched.long;
      found = rw c.as_slice-2.ensures.value at c.in_ok-distances.ensures.distances;
    }
