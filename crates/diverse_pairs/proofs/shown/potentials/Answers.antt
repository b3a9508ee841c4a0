use Rattle.std.proofs.Common.{arith, rules}
use Rattle.diverse_pairs.proofs.Showing.{row_more, row_same, rows_done}
use Rattle.diverse_pairs.proofs.shown.potentials.Goals as goal
use Rattle.diverse_pairs.proofs.shown.potentials.Goals.{then-height+in_ok-push, else-height}

pub loop-place-preserved : goal.loop-place-preserved
loop-place-preserved c =
    let g = c.args.topology.now in
    let hs = c.args.heights.now in
    let top = c.greatest-top.result in
    let k = c.loop-place.place in
    let rows = c.loop-place.rows.items in
    elim c.if-height.branch [
      | then-height+in_ok-push w ↦
          rw (w.rows-is, w.in_ok-push.ensures.items)
          (row_more g hs top k rows w.node_at.result c.node_count-place-end.ensures.order c.loop-place.invariant w.node_at.ensures (search rules))
      | else-height w ↦ rw w.rows-is (row_same g hs top k rows c.loop-place.invariant (λ reached. omega (arith, reached, w.if-height.false)))
    ]

pub returns : goal.returns
returns c = (
  c.greatest-top.result,
  rows_done c.args.topology.now c.args.heights.now c.greatest-top.result c.loop-place.place c.loop-place.rows.items c.greatest-top.ensures c.loop-place.invariant
      (omega (arith, c.loop-place-test.false, c.node_count-place-end.ensures.count)),
)
