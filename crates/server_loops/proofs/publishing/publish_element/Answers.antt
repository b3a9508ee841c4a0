use Rattle.std.proofs.Common.{◌≡◌, ◌∙◌, ◌++◌, ◌∷◌, [], ℕ, ap, subst, if◌then◌else◌}
use Rattle.std.specs.Prelude.{OnOk}
use Rattle.std.specs.Arc.{arc_value}
use Rattle.std.proofs.lemmas.Result.{err_from_is_err_and}
use Rattle.te_links.specs.Rows.{Rows}
use Rattle.ted_watch.specs.declared.shown.Shown.{Shown}
use Rattle.ted_watch.specs.Published.{generation_of, last_of}
use Rattle.ted_watch.specs.Watch.{published}
use Rattle.server_loops.specs.Operating.{entry_of, is_newer}
use Rattle.server_loops.proofs.Doing.{asked_out, shown_goes, shown_none}
use Rattle.server_loops.proofs.publishing.publish_element.Goals as goal

pub returns-in-Some-clause-publishes : goal.returns-in-Some-clause-publishes
returns-in-Some-clause-publishes g c =
    let at = c.args.at in
    let found : ℕ × Rows = (c.in-Some.generation, arc_value c.in-Some.topology) in
    let list = (published c.args.publisher.now) in
    let more = (published c.show_newer.new.publisher) in
    let r = c.show_newer.result in
    let e : c.entry_of.result ≡ entry_of at found = c.entry_of.ensures ∙ ap (λ (t : Rows). entry_of at (c.in-Some.generation, t)) c.deref.ensures in
    shown_goes at found r (g.D.Chart.charted c.args.desk.now) (g.D.Chart.charted c.ask.new.desk) list more (rw c.in-Some.is at c.in_ok-found.ensures.asked)
    (subst (λ (s : Shown). OnOk r (more ≡ list ++ (if is_newer s.generation (generation_of (last_of s.at.0 list)) then s ∷ [] else []))) e c.show_newer.ensures.shown) c.show_newer.ensures.same

pub returns-in-None-clause-publishes : goal.returns-in-None-clause-publishes
returns-in-None-clause-publishes g c =
    shown_none c.args.at (g.D.Chart.charted c.args.desk.now) (g.D.Chart.charted c.ask.new.desk) (published c.args.publisher.now) (rw c.in-None.is at c.in_ok-found.ensures.asked)

pub returns-in_err-found-clause-publishes : goal.returns-in_err-found-clause-publishes
returns-in_err-found-clause-publishes g c =
    let p = err_from_is_err_and c.from_residual.result c.from_residual.ensures.1 in
    rw (p.1, p.2) (asked_out c.args.at c.in_err-found.field-0.0 (g.D.Chart.charted c.args.desk.now) (g.D.Chart.charted c.ask.new.desk) (published c.args.publisher.now) c.in_err-found.ensures.asked)
