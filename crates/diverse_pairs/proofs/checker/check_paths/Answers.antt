use Rattle.std.proofs.Common.{subst, ℕ}
use Rattle.std.specs.Prelude.{List}
use Rattle.dom_base.specs.declared.addr.Addr.{Addr}
use Rattle.diverse_pairs.specs.Potentials.{potential_in}
use Rattle.diverse_pairs.specs.Conditions.{asked_of, LinkHoldsAt}
use Rattle.diverse_pairs.specs.Steps.{IsFirstNot}
use Rattle.diverse_pairs.proofs.Counting.{both_behind, first_shown, second_shown}
use Rattle.diverse_pairs.proofs.Judging.{link_first, paths_hold}
use Rattle.diverse_pairs.proofs.checker.check_paths.Goals as goal

pub slice_bounds-false_link-count : goal.slice_bounds-false_link-count
slice_bounds-false_link-count c = first_shown c.args.topology.now c.args.query.now c.args.source c.args.target c.args.first.now c.args.second.now c.in_default.ensures

pub slice_bounds-false_link-start : goal.slice_bounds-false_link-start
slice_bounds-false_link-start c = first_shown c.args.topology.now c.args.query.now c.args.source c.args.target c.args.first.now c.args.second.now c.in_default.ensures

pub slice_bounds-false_link-count-2 : goal.slice_bounds-false_link-count-2
slice_bounds-false_link-count-2 c = second_shown c.args.topology.now c.args.query.now c.args.source c.args.target c.args.first.now c.args.second.now c.in_default.ensures

pub slice_bounds-false_link-start-2 : goal.slice_bounds-false_link-start-2
slice_bounds-false_link-start-2 c = second_shown c.args.topology.now c.args.query.now c.args.source c.args.target c.args.first.now c.args.second.now c.in_default.ensures

pub returns-in-Some-false_link : goal.returns-in-Some-false_link
returns-in-Some-false_link c =
    let g = c.args.topology.now in
    let q = c.args.query.now in
    let s = c.args.source in
    let t = c.args.target in
    let p = c.args.potentials.now in
    let first = c.args.first.now in
    let second = c.args.second.now in
    let used = both_behind g q s t first second c.in_default.ensures in
    link_first (asked_of g q s t) p first second c.in-Some-false_link.index c.in_default.ensures
    (subst (λ (xs : List Addr). IsFirstNot (LinkHoldsAt g q (potential_in p) xs) c.in-Some-false_link.index) used c.in-Some-false_link.ensures)

pub returns-in-None : goal.returns-in-None
returns-in-None c =
    let g = c.args.topology.now in
    let q = c.args.query.now in
    let s = c.args.source in
    let t = c.args.target in
    let p = c.args.potentials.now in
    let first = c.args.first.now in
    let second = c.args.second.now in
    let used = both_behind g q s t first second c.in_default.ensures in
    paths_hold (asked_of g q s t) p first second c.in_default.ensures (subst (λ (xs : List Addr). (i : ℕ) → LinkHoldsAt g q (potential_in p) xs i) used c.in-None.ensures)
