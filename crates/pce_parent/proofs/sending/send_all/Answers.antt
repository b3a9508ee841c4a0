use Rattle.std.proofs.Common.{◌≡◌, Some, length, refl, arith}
use Rattle.std.specs.Prelude.{slice_get}
use Rattle.std.proofs.lemmas.Option.{slice_get_read}
use Rattle.pce_common.specs.plant_model.Parent.{Errand, all_waits}
use Rattle.pce_parent.proofs.Sends.{one_sent}
use Rattle.pce_parent.proofs.sending.send_all.Goals as goal

pub loop-errand-preserved : goal.loop-errand-preserved
loop-errand-preserved c =
    let at = c.loop-errand in
    let rs = c.args.errands.now in
    let r : Errand = c.errand-item.result in
    let here : slice_get rs at.errand-index ≡ Some r = slice_get_read rs (length rs) at.errand-index r refl (omega arith) c.errand-item.is in
    one_sent c.args.wanted.now (all_waits c.args.requests.now.kept.rows) rs c.args.ways.now at.errand-index r at.sending c.send_one.new.sending here c.in_ok-send_one.ensures at.invariant
