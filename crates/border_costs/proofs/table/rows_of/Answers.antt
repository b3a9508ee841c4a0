use Rattle.std.proofs.Common.{arith}
use Rattle.std.specs.Prelude.{Contains}
use Rattle.border_costs.proofs.TableRows.{rows_added, rows_left, all_rows, node_rows}
use Rattle.border_costs.proofs.table.rows_of.Goals as goal
use Rattle.border_costs.proofs.table.rows_of.Goals.{then-stands+in_ok-push_rows, else-stands}

pub loop-place-preserved : goal.loop-place-preserved
loop-place-preserved g c =
    let rows = g.G.Links.rows c.args.links.now in
    let ask = c.args.ask.now in
    let i = c.loop-place.place in
    let n = c.node_at-node.result in
    let at = c.node_at-node.ensures in
    elim c.if-stands.branch [
      | then-stands+in_ok-push_rows w ↦
          let entry : Contains ask.entries n = rw c.as_slice.ensures at (c.stands.ensures.0 w.if-stands.true) in
          rw (w.rows-is, w.in_ok-push_rows.ensures)
          (rows_added rows ask c.node_count-place-end.ensures.order i n c.loop-place.rows.items _ c.loop-place.invariant at entry (node_rows rows ask.query ask.target c.args.columns.now c.requires i n at))
      | else-stands w ↦
          let lacks : ¬ Contains ask.entries n = λ has. (let yes = c.stands.ensures.1 (rw c.as_slice.ensures has) in let no_ = w.if-stands.false in cc) in
          rw w.rows-is (rows_left rows ask i n c.loop-place.rows.items c.loop-place.invariant at lacks)
    ]

pub returns : goal.returns
returns g c = all_rows (g.G.Links.rows c.args.links.now) c.args.ask.now c.loop-place.place c.loop-place.rows.items c.loop-place.invariant (omega (arith, c.loop-place-test.false, c.node_count-place-end.ensures.count))
