use Rattle.pce_parent.specs.Pendings.{row_of}
use Rattle.pce_parent.proofs.Sends.{waits_next}
use Rattle.pce_parent.proofs.sending.all_waits.Goals as goal

pub loop-i-preserved : goal.loop-i-preserved
loop-i-preserved c =
    let at = c.loop-i in
    waits_next c.args.requests.now.kept.rows at.i (row_of c.in-Some.row) at.waits.items c.extend_from_slice.new.self.items c.waits.result.now c.in-Some.ensures.row at.invariant c.waits.ensures c.in_ok-extend_from_slice.ensures.items
