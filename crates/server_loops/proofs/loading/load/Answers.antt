use Rattle.std.proofs.Common.{◌&&◌, Bool, Ok, Err, refl, subst}
use Rattle.std.proofs.lemmas.Result.{err_from_is_err_and}
use Rattle.plant_text.specs.Settings.{is_element}
use Rattle.ted_watch.specs.Watch.{published}
use Rattle.server_loops.specs.Operating.{Publishes, past}
use Rattle.server_loops.proofs.Doing.{load_told, load_unshown}
use Rattle.server_loops.proofs.loading.load.Goals as goal

pub returns-in_err-publish_loaded-clause-goes : goal.returns-in_err-publish_loaded-clause-goes
returns-in_err-publish_loaded-clause-goes g c =
    let p = err_from_is_err_and c.from_residual-in_err-publish_loaded.result c.from_residual-in_err-publish_loaded.ensures.1 in
    let n = c.args.network.now in
    let at = c.args.line.at in
    let list = (published c.args.publisher.now) in
    let end = c.in_err-publish_loaded.field-0.0 in
    let a = past (g.D.Chart.charted c.args.desk.now) list in
    let m = past (g.D.Chart.charted c.act.new.desk) list in
    let b = past (g.D.Chart.charted c.publish_loaded.new.desk) (published c.publish_loaded.new.publisher) in
    let spent = (g.D.Chart.charted c.publish_loaded.new.desk).spent in
    let answer = c.in_ok-answer.answer in
    rw (p.1, p.2) (load_unshown n c.args.line.number at c.args.topology answer a m b end spent c.args.into.now.items c.args.into.now.items c.in_ok-answer.ensures.acted.0 refl
    (subst (λ (d : Bool). Publishes (Err end) at (d && is_element n at) m b spent) c.is_done.ensures c.in_err-publish_loaded.ensures.publishes))

pub returns-clause-goes : goal.returns-clause-goes
returns-clause-goes g c =
    let n = c.args.network.now in
    let at = c.args.line.at in
    let list = (published c.args.publisher.now) in
    let a = past (g.D.Chart.charted c.args.desk.now) list in
    let m = past (g.D.Chart.charted c.act.new.desk) list in
    let b = past (g.D.Chart.charted c.publish_loaded.new.desk) (published c.publish_loaded.new.publisher) in
    let spent = (g.D.Chart.charted c.publish_loaded.new.desk).spent in
    let answer = c.in_ok-answer.answer in
    load_told n c.args.line.number at c.args.topology answer c.tell_answer.result a m b spent c.args.into.now.items c.tell_answer.new.into.items c.in_ok-answer.ensures.acted.0 refl
    (subst (λ (d : Bool). Publishes (Ok tt) at (d && is_element n at) m b spent) c.is_done.ensures c.in_ok-publish_loaded.ensures.publishes) c.tell_answer.ensures.told c.tell_answer.ensures.lack
