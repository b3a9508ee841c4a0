use Rattle.std.proofs.Common.{IfOk, subst}
use Rattle.border_costs.specs.declared.answer.LabelledAnswer.{LabelledAnswer}
use Rattle.plant_network.specs.plant_model.declared.event.Event.{Event}
use Rattle.plant_network.specs.Topologies.{whole}
use Rattle.plant_play.specs.Making.{Makes}
use Rattle.plant_play.proofs.EventLemmas.{solve_of}
use Rattle.plant_play.proofs.ShownLemmas.{always, labels_told}
use Rattle.plant_play.proofs.events.solve_shown.Goals as goal

pub committed-requires : goal.committed-requires
committed-requires c =
    (solve_of (whole c.args.plant.now) c.args.job.now c.in_ok-solved.solved c.in_ok-solved.ensures.ask c.in_ok-solved.ensures.topology c.args.modes c.args._event.now c.requires).own

pub returns-clause-makes : goal.returns-clause-makes
returns-clause-makes c =
    let old = whole c.args.plant.now in
    let new = whole c.committed.new.plant in
    subst (λ (e : Event). IfOk c.committed.result (λ answer. Makes old e answer new)) (solve_of old c.args.job.now c.in_ok-solved.solved c.in_ok-solved.ensures.ask c.in_ok-solved.ensures.topology c.args.modes c.args._event.now c.requires).is
    c.committed.ensures.makes

pub returns-clause-labels : goal.returns-clause-labels
returns-clause-labels c =
    let told : LabelledAnswer = record { rows = c.in_ok-solved.solved.rows; certificate = c.in_ok-solved.certificate } in
    always c.committed.result
    (labels_told c.args.line c.args.modes.certify c.args.job.now told c.args.labels.now c.write_labels_if.new.into c.in_ok-solved.ensures.rows c.in_ok-write_labels_if.ensures)
