use Rattle.std.proofs.Common.{◌≢◌, [], sym, subst}
use Rattle.std.specs.Prelude.{AllPairs}
use Rattle.dom_base.specs.declared.addr.Addr.{Addr}
use Rattle.diverse_pairs.proofs.Counting.{first_false, some_shown, behind_first}
use Rattle.diverse_pairs.proofs.Judging.{whole}
use Rattle.diverse_pairs.proofs.false_path.false_address.Goals as goal

pub returns-in-Some : goal.returns-in-Some
returns-in-Some c = first_false c.args.topology.now c.args.query.now c.args.source c.args.target c.args.first.now c.args.second.now c.in-Some.place c.in-Some.ensures.first

pub slice_bounds-false_place-count : goal.slice_bounds-false_place-count
slice_bounds-false_place-count c = some_shown c.args.topology.now c.args.query.now _ c.args.source c.args.target c.args.first.now c.in_default.ensures.first

pub slice_bounds-false_place-start : goal.slice_bounds-false_place-start
slice_bounds-false_place-start c = some_shown c.args.topology.now c.args.query.now _ c.args.source c.args.target c.args.first.now c.in_default.ensures.first

pub false_place-requires-2-clause-differ : goal.false_place-requires-2-clause-differ
false_place-requires-2-clause-differ c =
    let one = whole c.args.topology.now c.args.query.now [] c.args.source c.args.target c.args.first.now c.in_default.ensures.first in
    subst (AllPairs (λ (a b : Addr). a ≢ b)) (sym (behind_first c.args.first.now (some_shown c.args.topology.now c.args.query.now [] c.args.source c.args.target c.args.first.now c.in_default.ensures.first))) one.new
