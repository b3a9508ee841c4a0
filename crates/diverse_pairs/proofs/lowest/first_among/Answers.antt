use Rattle.diverse_pairs.specs.Listed.{listed}
use Rattle.diverse_pairs.specs.Uses.{marks_of}
use Rattle.diverse_pairs.proofs.FirstAmong.{first_here, none_among}
use Rattle.diverse_pairs.proofs.lowest.first_among.Goals as goal

pub returns-in-Some : goal.returns-in-Some
returns-in-Some c =
    let arcs = listed c.args.arcs.now in
    let marks = marks_of c.args.uses.now arcs in
    let here = c.in-Some.ensures in
    first_here arcs marks c.args.from c.args.places.now c.loop-place.place-index c.in-Some.arc c.requires.rising c.loop-place-test.true c.loop-place.invariant here.0 here.1 here.2

pub returns : goal.returns
returns c =
    let arcs = listed c.args.arcs.now in
    none_among arcs (marks_of c.args.uses.now arcs) c.args.from c.args.places.now c.loop-place.place-index c.loop-place-test.false c.loop-place.invariant
