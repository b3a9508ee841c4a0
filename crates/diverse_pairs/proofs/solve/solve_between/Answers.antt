use Rattle.std.proofs.Common.{◌≡◌, length, ap, arith, rules}
use Rattle.std.specs.Prelude.{slice_index_or}
use Rattle.std.proofs.lemmas.Option.{slice_get_within}
use Rattle.std.proofs.lemmas.Result.{IfOk-weaker}
use Rattle.diverse_pairs.specs.declared.arcs.TheConstants.{UNREACHED}
use Rattle.diverse_pairs.specs.Conditions.{asked_of}
use Rattle.diverse_pairs.specs.Residual.{left_arcs}
use Rattle.diverse_pairs.specs.Solution.{IsSolved}
use Rattle.diverse_pairs.specs.Solving.{IsSearched, IsCutForm}
use Rattle.diverse_pairs.proofs.CutShown.{first_cut, second_cut}
use Rattle.diverse_pairs.proofs.solve.solve_between.Goals as goal

pub returns-then-first-from : goal.returns-then-first-from
returns-then-first-from c =
    let g = c.args.topology.now in
    let q = c.args.query.now in
    let arcs = c.as_slice-arcs.result.now in
    let ds = c.as_slice-first.result.now in
    let searched : IsSearched g q c.args.to arcs ds = search rules in
    IfOk-weaker c.cut_form.result (IsCutForm g ds) (IsSolved (asked_of g q c.args.source c.args.target))
    (λ form cut. first_cut g q c.args.source c.args.target c.args.from c.args.to arcs ds form c.requires searched c.if-first-from.true cut) c.cut_form.ensures

pub walk-requires-clause-from : goal.walk-requires-clause-from
walk-requires-clause-from c =
    let searched : IsSearched c.args.topology.now c.args.query.now c.args.to c.as_slice-arcs.result.now c.as_slice-first.result.now = search rules in
    omega (arith, searched.long, slice_get_within c.args.topology.now.nodes c.args.from c.args.source c.requires.source.at_place)

pub walk-requires-clause-to : goal.walk-requires-clause-to
walk-requires-clause-to c =
    let searched : IsSearched c.args.topology.now c.args.query.now c.args.to c.as_slice-arcs.result.now c.as_slice-first.result.now = search rules in
    omega (arith, searched.long, slice_get_within c.args.topology.now.nodes c.args.to c.args.target c.requires.target.at_place)

pub returns-then-over-from : goal.returns-then-over-from
returns-then-over-from c =
    let g = c.args.topology.now in
    let q = c.args.query.now in
    let arcs = c.as_slice-arcs.result.now in
    let ds = c.as_slice-first.result.now in
    let searched : IsSearched g q c.args.to arcs ds = search rules in
    let far : slice_index_or c.in_ok-walked.walked.distances.items c.args.from 0 ≡ UNREACHED = rw c.as_slice-over.ensures.value at c.if-over-from.true in
    IfOk-weaker c.cut_form-then-over-from.result (IsCutForm g c.as_slice-over.result.now) (IsSolved (asked_of g q c.args.source c.args.target))
    (λ form cut.
    second_cut g q c.args.source c.args.target c.args.from c.args.to arcs ds c.in_ok-walked.walked.in_use.items (left_arcs ds c.in_ok-walked.walked.in_use.items arcs) c.in_ok-walked.walked.distances.items
    c.requires searched c.in_ok-walked.ensures form far (rw c.as_slice-over.ensures.value at cut))
    c.cut_form-then-over-from.ensures

pub bounds-over-from : goal.bounds-over-from
bounds-over-from c =
    let searched : IsSearched c.args.topology.now c.args.query.now c.args.to c.as_slice-arcs.result.now c.as_slice-first.result.now = search rules in
    omega (
      arith,
      c.in_ok-walked.ensures.long,
      searched.long,
      slice_get_within c.args.topology.now.nodes c.args.from c.args.source c.requires.source.at_place,
      ap length c.as_slice-over.ensures.value,
    )
