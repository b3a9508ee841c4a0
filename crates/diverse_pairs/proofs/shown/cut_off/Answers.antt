use Rattle.std.proofs.Common.{arith}
use Rattle.diverse_pairs.proofs.Showing.{cut_more, cut_same, cut_done}
use Rattle.diverse_pairs.proofs.shown.cut_off.Goals as goal
use Rattle.diverse_pairs.proofs.shown.cut_off.Goals.{then-distances-place+in_ok-push, else-distances-place}

pub loop-place-preserved : goal.loop-place-preserved
loop-place-preserved c =
    let g = c.args.topology.now in
    let ds = c.args.distances.now in
    let k = c.loop-place.place in
    let nodes = c.loop-place.nodes.items in
    elim c.if-distances-place.branch [
      | then-distances-place+in_ok-push w ↦
          rw (w.nodes-is, w.in_ok-push.ensures.items)
          (cut_more g ds k nodes w.node_at.result c.node_count-place-end.ensures.order c.loop-place.invariant w.node_at.ensures (omega (arith, w.if-distances-place.true)))
      | else-distances-place w ↦ rw w.nodes-is (cut_same g ds k nodes c.loop-place.invariant (λ is. omega (arith, is, w.if-distances-place.false)))
    ]

pub returns : goal.returns
returns c =
    cut_done c.args.topology.now c.args.distances.now c.loop-place.place c.loop-place.nodes.items c.loop-place.invariant
    (omega (arith, c.loop-place-test.false, c.node_count-place-end.ensures.count))
