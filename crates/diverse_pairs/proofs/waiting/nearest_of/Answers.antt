use Rattle.diverse_pairs.proofs.Nearest.{nearest_found}
use Rattle.diverse_pairs.proofs.waiting.nearest_of.Goals as goal

pub returns : goal.returns
returns c =
    nearest_found c.args.distances.now c.args.nearest.now c.loop-place.place-index c.loop-place.least c.loop-place.found c.requires c.loop-place-test.false
    c.loop-place.invariant.each c.loop-place.invariant.found
