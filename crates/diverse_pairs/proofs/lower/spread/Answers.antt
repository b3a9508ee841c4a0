use Rattle.std.proofs.Common.{◌≡◌, ◌+◌, ◌++◌, ◌∷◌, [], take, slice_index_or}
use Rattle.std.proofs.lemmas.List.{take_more}
use Rattle.diverse_pairs.specs.Listed.{listed}
use Rattle.diverse_pairs.proofs.Settling.{spread_more}
use Rattle.diverse_pairs.proofs.lower.spread.Goals as goal

pub loop-place-preserved : goal.loop-place-preserved
loop-place-preserved c =
    let places = c.args.places.now in
    let k = c.loop-place.place-index in
    let more : take (k + 1) places ≡ take k places ++ slice_index_or places k 0 ∷ [] = take_more places k 0 c.loop-place-test.true in
    record {
      spreads = rw more
          (spread_more (listed c.args.arcs.now) c.args._target c.args.node (slice_index_or places k 0) (take k places) c.args.distances.now c.loop-place.distances c.spread_arc.new.distances
          c.args.waiting.now c.loop-place.waiting c.spread_arc.new.waiting c.loop-place.invariant.spreads c.spread_arc.ensures.spreads);
    }
