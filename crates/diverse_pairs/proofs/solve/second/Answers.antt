use Rattle.std.proofs.Common.{◌≡◌, ◌<◌, ◌∙◌, length, sym, ap, subst, arith}
use Rattle.std.specs.Prelude.{All}
use Rattle.std.proofs.lemmas.Option.{slice_get_within}
use Rattle.std.proofs.lemmas.Result.{IfOk-weaker}
use Rattle.diverse_pairs.specs.Paths.{TurnsTight}
use Rattle.diverse_pairs.specs.Residual.{left_arcs, AreHeights}
use Rattle.diverse_pairs.specs.Conditions.{asked_of}
use Rattle.diverse_pairs.specs.Solution.{IsSolved}
use Rattle.diverse_pairs.specs.Solving.{ArePathsIn}
use Rattle.diverse_pairs.proofs.Along.{arcs_along, residual_along}
use Rattle.diverse_pairs.proofs.Beginning.{searched_near, walk_fits}
use Rattle.diverse_pairs.proofs.Beside.{left_among, first_reached}
use Rattle.diverse_pairs.proofs.Flow.{length_turned}
use Rattle.diverse_pairs.proofs.Listed.{left_long, left_residual}
use Rattle.diverse_pairs.proofs.Walked.{is_left, long_us, make_paths}
use Rattle.diverse_pairs.proofs.Certifying.{form_solved}
use Rattle.diverse_pairs.proofs.solve.second.Goals as goal

pub tight_path-requires-clause-fits : goal.tight_path-requires-clause-fits
tight_path-requires-clause-fits c =
    walk_fits c.args.topology.now c.args._query.now c.args.to c.args.arcs.now c.args.first.now c.as_slice.result.now c.requires.placed.valid c.requires.searched
    (ap length c.as_slice.ensures.value
    ∙ long_us c.args.topology.now c.args._query.now c.args.source c.args._target c.args.from c.args.to c.args.arcs.now c.args.first.now c.args.walked.in_use.items (left_arcs c.args.first.now c.args.walked.in_use.items c.args.arcs.now) c.args.walked.distances.items
    c.requires.placed c.requires.searched c.requires.walked)

pub tight_path-requires-clause-along : goal.tight_path-requires-clause-along
tight_path-requires-clause-along c =
    residual_along c.args.topology.now c.args.arcs.now (left_arcs c.args.first.now c.as_slice.result.now c.args.arcs.now) c.args.first.now c.as_slice.result.now
    (arcs_along c.args.topology.now c.args._query.now c.args.arcs.now c.requires.placed.valid c.requires.searched.are) (left_residual c.args.arcs.now c.args.first.now c.as_slice.result.now)

pub tight_path-requires-clause-among : goal.tight_path-requires-clause-among
tight_path-requires-clause-among c = λ i a is_arc.
    rw c.deref.ensures.value
    (left_among c.args.arcs.now (left_arcs c.args.first.now c.args.walked.in_use.items c.args.arcs.now) c.args.to c.args.first.now c.args.walked.distances.items c.args.walked.in_use.items
    (is_left c.args.topology.now c.args._query.now c.args.source c.args._target c.args.from c.args.to c.args.arcs.now c.args.first.now c.args.walked.in_use.items (left_arcs c.args.first.now c.args.walked.in_use.items c.args.arcs.now) c.args.walked.distances.items
    c.requires.placed c.requires.searched c.requires.walked) i a (rw c.as_slice.ensures.value at is_arc))

pub tight_path-requires-clause-distances : goal.tight_path-requires-clause-distances
tight_path-requires-clause-distances c = rw (c.as_slice.ensures.value, c.deref.ensures.value) c.requires.walked.found

pub tight_path-requires-clause-reached : goal.tight_path-requires-clause-reached
tight_path-requires-clause-reached c = rw c.deref.ensures.value c.requires.reached

pub tight_path-requires-clause-source : goal.tight_path-requires-clause-source
tight_path-requires-clause-source c =
    omega (
      arith,
      slice_get_within c.args.topology.now.nodes c.args.from c.args.source c.requires.placed.source.at_place,
      c.requires.searched.long,
      c.requires.walked.long,
      ap length c.deref.ensures.value,
    )

pub turn-both-requires : goal.turn-both-requires
turn-both-requires c =
    let long : length (left_arcs c.args.first.now c.as_slice.result.now c.args.arcs.now) ≡ length c.args.walked.in_use.items =
    left_long c.args.arcs.now c.args.first.now c.as_slice.result.now
    ∙ sym (long_us c.args.topology.now c.args._query.now c.args.source c.args._target c.args.from c.args.to c.args.arcs.now c.args.first.now c.args.walked.in_use.items (left_arcs c.args.first.now c.args.walked.in_use.items c.args.arcs.now) c.args.walked.distances.items
    c.requires.placed c.requires.searched c.requires.walked) in
    record { within = rw c.as_slice-2.ensures.value (subst (λ n. All (λ i. i < n) c.in_ok-path.path.items) long c.in_ok-path.ensures.within) }

pub paths_form-requires-clause-along : goal.paths_form-requires-clause-along
paths_form-requires-clause-along c = arcs_along c.args.topology.now c.args._query.now c.args.arcs.now c.requires.placed.valid c.requires.searched.are

pub heights-requires-clause-near : goal.heights-requires-clause-near
heights-requires-clause-near c = searched_near c.args.topology.now c.args._query.now c.args.to c.args.arcs.now c.args.first.now c.requires.placed.valid c.requires.searched

pub heights-requires-clause-reached : goal.heights-requires-clause-reached
heights-requires-clause-reached c = λ n reached.
    first_reached c.args.arcs.now (left_arcs c.args.first.now c.args.walked.in_use.items c.args.arcs.now) c.args.to c.args.first.now c.args.walked.distances.items c.args.walked.in_use.items
    (is_left c.args.topology.now c.args._query.now c.args.source c.args._target c.args.from c.args.to c.args.arcs.now c.args.first.now c.args.walked.in_use.items (left_arcs c.args.first.now c.args.walked.in_use.items c.args.arcs.now) c.args.walked.distances.items
    c.requires.placed c.requires.searched c.requires.walked) n (rw c.deref-2.ensures.value at reached)

pub paths_form-requires-clause-in_use : goal.paths_form-requires-clause-in_use
paths_form-requires-clause-in_use c =
    ap length c.turn-both.ensures.turned ∙ length_turned c.as_slice-2.result.now c.args.walked.in_use.items
    ∙ long_us c.args.topology.now c.args._query.now c.args.source c.args._target c.args.from c.args.to c.args.arcs.now c.args.first.now c.args.walked.in_use.items (left_arcs c.args.first.now c.args.walked.in_use.items c.args.arcs.now) c.args.walked.distances.items
    c.requires.placed c.requires.searched c.requires.walked

pub paths_form-requires-clause-paths : goal.paths_form-requires-clause-paths
paths_form-requires-clause-paths c =
    let heights : AreHeights c.args.first.now c.args.walked.distances.items c.deref-3.result.now = rw c.deref-3.ensures.value (rw c.deref-2.ensures.value at c.in_ok-heights.ensures) in
    let turns : TurnsTight (left_arcs c.args.first.now c.args.walked.in_use.items c.args.arcs.now) c.args.walked.distances.items c.args.from c.args.to c.args.walked.in_use.items c.turn-both.result.items =
    rw (c.turn-both.ensures.turned, c.as_slice-2.ensures.value) (rw (c.as_slice.ensures.value, c.deref.ensures.value) at (c.in_ok-path.ensures.turns c.args.walked.in_use.items)) in
    make_paths c.args.topology.now c.args._query.now c.args.source c.args._target c.args.from c.args.to c.args.arcs.now c.args.first.now c.args.walked.in_use.items (left_arcs c.args.first.now c.args.walked.in_use.items c.args.arcs.now) c.args.walked.distances.items
    c.requires.placed c.requires.searched c.requires.walked c.turn-both.result.items c.deref-3.result.now (record { reached = c.requires.reached; turns = turns; heights = heights })

pub returns : goal.returns
returns c =
    let heights : AreHeights c.args.first.now c.args.walked.distances.items c.deref-3.result.now = rw c.deref-3.ensures.value (rw c.deref-2.ensures.value at c.in_ok-heights.ensures) in
    let turns : TurnsTight (left_arcs c.args.first.now c.args.walked.in_use.items c.args.arcs.now) c.args.walked.distances.items c.args.from c.args.to c.args.walked.in_use.items c.turn-both.result.items =
    rw (c.turn-both.ensures.turned, c.as_slice-2.ensures.value) (rw (c.as_slice.ensures.value, c.deref.ensures.value) at (c.in_ok-path.ensures.turns c.args.walked.in_use.items)) in
    IfOk-weaker c.paths_form.result (ArePathsIn c.args.topology.now c.args.source c.args.arcs.now c.args.from c.args.to c.turn-both.result.items c.deref-3.result.now)
    (IsSolved (asked_of c.args.topology.now c.args._query.now c.args.source c.args._target))
    (λ form a.
    form_solved c.args.topology.now c.args._query.now c.args.source c.args._target c.args.from c.args.to c.args.arcs.now c.args.first.now c.args.walked.in_use.items (left_arcs c.args.first.now c.args.walked.in_use.items c.args.arcs.now) c.args.walked.distances.items
    c.requires.placed c.requires.searched c.requires.walked c.turn-both.result.items c.deref-3.result.now (record { reached = c.requires.reached; turns = turns; heights = heights }) form a)
    c.paths_form.ensures
