use Rattle.std.proofs.Common.{◌∙◌, List, sym, ap, subst}
use Rattle.plant_network.specs.plant_model.declared.event.Event.{Event}
use Rattle.plant_network.specs.Topologies.{whole}
use Rattle.plant_network.specs.plant_model.Types.{NetworkParts, PeerRow}
use Rattle.plant_play.specs.Logs.{behind}
use Rattle.plant_play.specs.Making.{IsToShow, Makes, event_of}
use Rattle.plant_play.specs.Turns.{event_line}
use Rattle.plant_play.proofs.EventLemmas.{due_event}
use Rattle.plant_play.proofs.ShownLemmas.{accepted, refuses, still_wait}
use Rattle.plant_play.proofs.events.make_due.Goals as goal

pub returns-then-is_err-clause-makes : goal.returns-then-is_err-clause-makes
returns-then-is_err-clause-makes c =
    refuses (whole c.args.plant.now) c.event_of-event.result (event_of c.args.due) c.in_ok-answer.answer (whole c.make.new.plant) c.args.into.now (sym c.if-is_err.ensures.value) c.event_of-event.ensures c.in_ok-answer.ensures.makes

pub returns-clause-makes : goal.returns-clause-makes
returns-clause-makes c =
    let e = event_of c.args.due in
    let old = whole c.args.plant.now in
    let new = whole c.make.new.plant in
    let is = c.event_of-event.ensures in
    due_event c.args.line c.args.modes old e c.in_ok-answer.answer new c.in_ok-job.job c.args.into.now c.write_due.new.into c.write_brought.new.into
    (subst (λ (x : Event). IsToShow c.args.modes old x c.in_ok-job.job) is c.in_ok-job.ensures)
    (subst (λ (x : Event). Makes old x c.in_ok-answer.answer new) is c.in_ok-answer.ensures.makes)
    (accepted c.in_ok-answer.answer (sym c.if-is_err.ensures.value))
    (c.in_ok-write_due.ensures ∙ ap (λ (ps : List PeerRow). behind c.args.into.now (event_line c.args.line ps e)) (c.as_slice.ensures ∙ ap (λ (n : NetworkParts). n.peers) c.parts.ensures)) c.in_ok-write_brought.ensures

pub write_brought-requires : goal.write_brought-requires
write_brought-requires c =
    still_wait c.args.line c.args.modes.certify c.in_ok-job.job c.beside-labels.result c.make.new.labels c.args.into.now c.write_due.new.into _ c.beside-labels.ensures c.in_ok-write_due.ensures
    c.in_ok-answer.ensures.labels
