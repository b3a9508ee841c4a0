use Rattle.std.proofs.Common.{◌≡◌, Bool, Some, None, cond, sym, subst, OnOk}
use Rattle.plant_play.specs.Logs.{behind}
use Rattle.plant_play.specs.Turns.{certificate_text}
use Rattle.plant_play.proofs.showing.write_labels_if.Goals as goal

pub returns-then-shown : goal.returns-then-shown
returns-then-shown c =
    let b0 = c.args.into.now in
    let b1 = c.write_certified.new.into in
    subst (λ (b : Bool). OnOk c.write_certified.result (b1 ≡ behind b0 (certificate_text c.args.line (cond b (Some c.args.certificate.now) None)))) (sym c.if-shown.true) c.write_certified.ensures
