use Rattle.std.proofs.Common.{Some, ◌∙◌}
use Rattle.pce_parent.proofs.RowsSaid.{rows_next}
use Rattle.pce_parent.proofs.rows.rows_of.Goals as goal

pub loop-path-preserved-in-Continue-1 : goal.loop-path-preserved-in-Continue-1
loop-path-preserved-in-Continue-1 c =
    let at = c.loop-path in
    rows_next c.args.wait.child c.args.wait.target c.args.metric c.in-Some.path at.left.items c.pop_front.new.self.items at.rows c.push.new.self (Some c.in-Some-row_of.row) c.in-Some.ensures.items c.in-Some-row_of.ensures c.in_ok-push.ensures.ok
    ∙ at.invariant
