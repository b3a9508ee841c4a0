use Rattle.std.proofs.Common.{◌≡◌, ◌∷◌, [], ◌++◌, Ok, Err, Some, None, inr, refl, sym, subst}
use Rattle.std.specs.Arc.{arc_value}
use Rattle.std.proofs.lemmas.Result.{err_from_is_err_and}
use Rattle.te_links.specs.Rows.{Rows}
use Rattle.plant_model.specs.declared.outcome.Refused.TheVariants.{NoSuchPeer}
use Rattle.transcript.specs.Lines.{answer_line}
use Rattle.ted_watch.specs.Watch.{published}
use Rattle.server_loops.specs.Charts.{Mapped}
use Rattle.server_loops.specs.Operating.{ChangesFile, past}
use Rattle.server_loops.specs.OperatorSteps.{Asked}
use Rattle.server_loops.proofs.Doing.{asked_goes_out, asked_told}
use Rattle.server_loops.proofs.loading.change_current.Goals as goal

pub returns-in_err-found-clause-goes : goal.returns-in_err-found-clause-goes
returns-in_err-found-clause-goes g c =
    let p = err_from_is_err_and c.from_residual.result c.from_residual.ensures.1 in
    let k = c.args.line.number in
    let at = c.args.line.at in
    let list = (published c.args.publisher.now) in
    let into = c.args.into.now.items in
    rw (p.1, p.2) (asked_goes_out (ChangesFile c.args.network.now k at c.args.line.name.now c.args.file.now list) at c.in_err-found.field-0.0 (g.D.Chart.charted c.args.desk.now) (g.D.Chart.charted c.ask.new.desk) list (Ok None)
    (record { calls = Mapped at (Ok None) ∷ []; shown = []; text = answer_line k (Err NoSuchPeer) }) [] into into (inr (c.args.changes.now, c.requires.says, (Ok None, refl))) refl c.in_err-found.ensures.asked)

pub returns-in-Some-clause-goes : goal.returns-in-Some-clause-goes
returns-in-Some-clause-goes g c =
    let at = c.args.line.at in
    let list = (published c.args.publisher.now) in
    let old = (g.D.Chart.charted c.args.desk.now) in
    let new = (g.D.Chart.charted c.ask.new.desk) in
    let k = c.in-Some._number in
    let asked : Asked at (Ok (Some (k, arc_value c.in-Some.topology))) old new = rw c.in-Some.is at c.in_ok-found.ensures.asked in
    c.load_changed.ensures.goes k (past old list) (subst (λ (t : Rows). new.calls ≡ old.calls ++ Mapped at (Ok (Some (k, t))) ∷ []) (sym c.deref.ensures) asked.0) refl

pub returns-in-None-clause-goes : goal.returns-in-None-clause-goes
returns-in-None-clause-goes g c =
    let k = c.args.line.number in
    let at = c.args.line.at in
    let list = (published c.args.publisher.now) in
    let old = (g.D.Chart.charted c.args.desk.now) in
    let new = (g.D.Chart.charted c.ask.new.desk) in
    let asked : Asked at (Ok None) old new = rw c.in-None.is at c.in_ok-found.ensures.asked in
    asked_told (ChangesFile c.args.network.now k at c.args.line.name.now c.args.file.now list) at (Ok None) (answer_line k (Err NoSuchPeer)) c.tell_answer.result old new list c.args.into.now.items c.tell_answer.new.into.items
    (inr (c.args.changes.now, c.requires.says, (Ok None, refl))) asked.1 asked.0 c.tell_answer.ensures.told c.tell_answer.ensures.lack
